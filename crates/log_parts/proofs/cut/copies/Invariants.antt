use Rattle.log_parts.specs.Picked.{AreCopied}
use Rattle.log_parts.proofs.cut.copies.Given as goal

abbrev pub invariant-loop-i : goal.invariant-loop-i
invariant-loop-i l = AreCopied l.fn.log l.picked l.part l.i
