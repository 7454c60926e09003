use Rattle.std.proofs.Common.{◌≡◌, None}
use Rattle.common_lists.specs.Firsts.{first_below}
use Rattle.shape_exact.proofs.ReadLaws.{equal_at}
use Rattle.shape_exact.proofs.faults.first_equal_to.Given as goal

abbrev pub invariant-loop-j : goal.invariant-loop-j
invariant-loop-j l = first_below l.j (equal_at l.points l.i) ≡ None
