use Rattle.std.proofs.Common.{◌≡◌, None}
use Rattle.common_lists.specs.Firsts.{first_below}
use Rattle.shape_exact.proofs.ReadLaws.{far_at}
use Rattle.shape_exact.proofs.faults.first_far.Given as goal

abbrev pub invariant-loop-i : goal.invariant-loop-i
invariant-loop-i l = first_below l.i (far_at l.points) ≡ None
