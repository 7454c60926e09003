use Rattle.log_parts.proofs.UniteLaws.{IsUniting}
use Rattle.log_parts.proofs.united.unite.Given as goal

abbrev pub invariant-loop-entry : goal.invariant-loop-entry
invariant-loop-entry l = IsUniting l.initial.log l.fn.own l.log l.numbers.items l.entry-index
