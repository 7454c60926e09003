use Rattle.std.proofs.Common.{◌≡◌, ◌≤◌, drop}
use Rattle.text_parts.specs.Parts.{read_on}
use Rattle.text_parts.proofs.numbers.plain_number.Given as goal

abbrev pub invariant-loop-digit : goal.invariant-loop-digit
invariant-loop-digit l =
    (read_on l.limit l.value (drop l.digit-index l.text) ≡ read_on l.limit 0 l.text) × (l.value ≤ l.limit)
