use Rattle.std.proofs.Common.{◌≡◌, drop, map}
use Rattle.std.specs.Prelude.{fold}
use Rattle.std.specs.Int.{int_max}
use Rattle.shape_exact.specs.Shapes.{greatest}
use Rattle.shape_exact.proofs.corner.upper_corner.Given as goal

abbrev pub invariant-loop-p : goal.invariant-loop-p
invariant-loop-p l = record {
  x : fold int_max l.corner.x (map (λ p. p.x) (drop l.p-index l.points)) ≡ greatest (λ p. p.x) l.points;
  y : fold int_max l.corner.y (map (λ p. p.y) (drop l.p-index l.points)) ≡ greatest (λ p. p.y) l.points;
}
