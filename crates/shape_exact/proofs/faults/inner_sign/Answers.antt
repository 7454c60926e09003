use Rattle.std.proofs.Common.{sym}
use Rattle.shape_exact.specs.Reading.{sign_of_edge}
use Rattle.common_lists.proofs.FirstLaws.{first_is}
use Rattle.shape_exact.proofs.faults.inner_sign.Goals as goal

pub returns-in-Some : goal.returns-in-Some
returns-in-Some c = sym (first_is _ c.loop-e.e (sign_of_edge c.args.points.now) c.in-Some.left c.loop-e.invariant c.loop-e-test.true (sym c.in-Some.ensures))
