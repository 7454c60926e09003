use Rattle.shape_exact.proofs.ShapeLaws.{half_cell}
use Rattle.shape_exact.proofs.shape.ShapeDefault.default.Goals as goal

pub invariant_of-result : goal.invariant_of-result
invariant_of-result c = rw (c.push-3.ensures.items, c.push-2.ensures.items, c.push.ensures.items, c.new-points.ensures) half_cell
