use Rattle.std.proofs.Common.{◌≡◌, None}
use Rattle.common_lists.specs.Firsts.{first_below}
use Rattle.shape_exact.proofs.ReadLaws.{sign_at}
use Rattle.shape_exact.proofs.faults.sign_of_edge.Given as goal

abbrev pub invariant-loop-v : goal.invariant-loop-v
invariant-loop-v l = first_below l.v (sign_at l.points l.e) ≡ None
