use Rattle.std.proofs.Common.{◌≡◌, None}
use Rattle.common_lists.specs.Firsts.{first_below}
use Rattle.shape_exact.proofs.ReadLaws.{sides_at}
use Rattle.shape_exact.proofs.faults.first_other.Given as goal

abbrev pub invariant-loop-e : goal.invariant-loop-e
invariant-loop-e l = first_below l.e (sides_at l.left l.points) ≡ None
