use Rattle.std.proofs.Common.{subst}
use Rattle.shape_exact.specs.Shapes.{IsShape}
use Rattle.shape_exact.proofs.FormLaws.{cells-turned}
use Rattle.shape_exact.proofs.laws.turn_keeps_cells.Goals as goal

pub returns : goal.returns
returns c = cells-turned c.args.turn c.args.shape.now (subst IsShape c.points.ensures.value c.points.ensures.shape)
