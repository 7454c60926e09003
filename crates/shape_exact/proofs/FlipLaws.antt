-- The edges of a line walked the other way round.
use Rattle.std.proofs.Common.{◌≡◌, arith}
use Rattle.shape_exact.proofs.RingLaws.{ring, linear}
use lib.IntN.{ℤ, ◌-ℤ◌, ◌*ℤ◌, neg_ℤ}
use Rattle.shape_exact.specs.declared.point.Point.{Point}
use Rattle.shape_exact.specs.Shapes.{cross}

-- and each side changes its sign
pub side_flip : (a b v : Point) → cross b a v ≡ neg_ℤ (cross a b v)
side_flip a b v = at a.x a.y b.x b.y v.x v.y
  where
    at : (ax ay bx by vx vy : ℤ) → (ax -ℤ bx) *ℤ (vy -ℤ by) -ℤ (ay -ℤ by) *ℤ (vx -ℤ bx) ≡ neg_ℤ ((bx -ℤ ax) *ℤ (vy -ℤ ay) -ℤ (by -ℤ ay) *ℤ (vx -ℤ ax))
    at ax ay bx by vx vy = simp ring (omega (arith, linear))
