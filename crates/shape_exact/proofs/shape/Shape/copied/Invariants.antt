use Rattle.std.proofs.Common.{◌≡◌, take}
use Rattle.shape_exact.proofs.shape.Shape.copied.Given as goal

abbrev pub invariant-loop-p : goal.invariant-loop-p
invariant-loop-p l = l.points.items ≡ take l.p-index l.p-items
