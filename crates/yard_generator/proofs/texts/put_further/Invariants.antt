use Rattle.std.proofs.Common.{◌≡◌, ◌++◌, drop}
use Rattle.std.specs.String.{string_bytes}
use Rattle.yard_generator.specs.Texts.{further}
use Rattle.yard_generator.proofs.texts.put_further.Given as goal

abbrev pub invariant-loop-number : goal.invariant-loop-number
invariant-loop-number l =
    string_bytes l.out ++ further (drop l.number-index l.numbers) ≡ string_bytes l.fn.out ++ further l.numbers
