use Rattle.std.proofs.Common.{subst}
use Rattle.shape_exact.specs.Shapes.{IsShape}
use Rattle.shape_exact.proofs.PlaceLaws.{cells_anywhere}
use Rattle.shape_exact.proofs.laws.shift_keeps_cells.Goals as goal

pub returns : goal.returns
returns c =
    cells_anywhere c.args.shape.now c.args.x c.args.y c.args.width c.args.height (subst IsShape c.points.ensures.value c.points.ensures.shape) c.requires.wide c.requires.high
