use Rattle.log_parts.proofs.PartLaws.{IsClosing}
use Rattle.log_parts.proofs.picked.closure_of.Given as goal

abbrev pub invariant-loop-i : goal.invariant-loop-i
invariant-loop-i l = IsClosing l.fn.log l.fn.last l.picked.items l.i
