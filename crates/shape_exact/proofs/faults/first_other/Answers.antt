use Rattle.std.proofs.Common.{◌≡◌, sym, refl, Some}
use Rattle.shape_exact.specs.Reading.{other_of_edge}
use Rattle.common_lists.proofs.FirstLaws.{first_is}
use Rattle.shape_exact.proofs.ReadLaws.{sides_at}
use Rattle.shape_exact.proofs.faults.first_other.Goals as goal

pub returns-in-Some : goal.returns-in-Some
returns-in-Some c =
    let found : other_of_edge c.args.left c.args.points.now c.loop-e.e ≡ Some c.in-Some.v = sym c.in-Some.ensures in
    sym (first_is _ c.loop-e.e (sides_at c.args.left c.args.points.now) (c.loop-e.e, c.in-Some.v) c.loop-e.invariant c.loop-e-test.true (rw found refl))
