use Rattle.std.proofs.Common.{take}
use Rattle.log_parts.specs.Picked.{IsAdded}
use Rattle.log_parts.proofs.picked.add_all.Given as goal

abbrev pub invariant-loop-number : goal.invariant-loop-number
invariant-loop-number l = IsAdded (take l.number-index l.numbers) l.initial.picked.items l.picked.items
