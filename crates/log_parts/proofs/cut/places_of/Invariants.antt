use Rattle.std.proofs.Common.{take}
use Rattle.log_parts.specs.Picked.{AreFoundIn}
use Rattle.log_parts.proofs.cut.places_of.Given as goal

abbrev pub invariant-loop-number : goal.invariant-loop-number
invariant-loop-number l = AreFoundIn l.picked (take l.number-index l.numbers) l.places.items
