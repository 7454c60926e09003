use Rattle.std.proofs.Common.{subst}
use Rattle.shape_exact.specs.Shapes.{IsShape}
use Rattle.yard_file.proofs.ApartLaws.{overlap_told}
use Rattle.yard_file.proofs.clashes.overlap.Goals as goal

pub returns-clause-value : goal.returns-clause-value
returns-clause-value c =
    overlap_told _ _ _ _ _ _ _ (subst IsShape c.points-one.ensures.value c.points-one.ensures.shape)
    (subst IsShape c.points-two.ensures.value c.points-two.ensures.shape) c.place_of.ensures.value c.place_of-2.ensures.value
    c.apart.ensures.apart
