use Rattle.std.proofs.Common.{◌≡◌}
use Rattle.shape_exact.specs.Shapes.{turned}
use Rattle.shape_exact.proofs.shape.Shape.turned.Given as goal

abbrev pub invariant-loop-i : goal.invariant-loop-i
invariant-loop-i l = l.shape ≡ turned l.i l.fn.self
