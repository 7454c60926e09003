use Rattle.std.proofs.Common.{◌≡◌, None}
use Rattle.common_lists.specs.Firsts.{first_below}
use Rattle.shape_exact.specs.Reading.{sign_of_edge}
use Rattle.shape_exact.proofs.faults.inner_sign.Given as goal

abbrev pub invariant-loop-e : goal.invariant-loop-e
invariant-loop-e l = first_below l.e (sign_of_edge l.points) ≡ None
