use Rattle.std.proofs.Common.{◌≡◌, None}
use Rattle.common_lists.specs.Firsts.{first_below}
use Rattle.shape_exact.proofs.ReadLaws.{other_at}
use Rattle.shape_exact.proofs.faults.other_of_edge.Given as goal

abbrev pub invariant-loop-v : goal.invariant-loop-v
invariant-loop-v l = first_below l.v (other_at l.left l.points l.e) ≡ None
