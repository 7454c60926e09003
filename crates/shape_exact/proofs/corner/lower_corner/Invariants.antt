use Rattle.std.proofs.Common.{◌≡◌, drop, map}
use Rattle.std.specs.Prelude.{fold}
use Rattle.std.specs.Int.{int_min}
use Rattle.shape_exact.specs.Shapes.{least}
use Rattle.shape_exact.proofs.corner.lower_corner.Given as goal

abbrev pub invariant-loop-p : goal.invariant-loop-p
invariant-loop-p l = record {
  x : fold int_min l.corner.x (map (λ p. p.x) (drop l.p-index l.points)) ≡ least (λ p. p.x) l.points;
  y : fold int_min l.corner.y (map (λ p. p.y) (drop l.p-index l.points)) ≡ least (λ p. p.y) l.points;
}
