use Rattle.std.proofs.Common.{◌≡◌, sym, refl, Some}
use Rattle.shape_exact.specs.Reading.{first_equal_to}
use Rattle.common_lists.proofs.FirstLaws.{first_is}
use Rattle.shape_exact.proofs.ReadLaws.{pair_at}
use Rattle.shape_exact.proofs.faults.first_equal.Goals as goal

pub returns-in-Some : goal.returns-in-Some
returns-in-Some c =
    let found : first_equal_to c.args.points.now c.loop-i.i ≡ Some c.in-Some.j = sym c.in-Some.ensures in
    sym (first_is _ c.loop-i.i (pair_at c.args.points.now) (c.loop-i.i, c.in-Some.j) c.loop-i.invariant c.loop-i-test.true (rw found refl))
