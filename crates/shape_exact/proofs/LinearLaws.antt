-- Sides are linear.
use Rattle.std.proofs.Common.{◌≡◌, arith}
use Rattle.shape_exact.proofs.RingLaws.{ring, linear}
use lib.IntN.{ℤ, ◌+ℤ◌, ◌-ℤ◌, ◌*ℤ◌}
use Rattle.shape_exact.specs.Plane.{Mark}

abbrev pub mix : ℤ → Mark → ℤ → Mark → Mark
mix p u q w = record { x = p *ℤ u.x +ℤ q *ℤ w.x; y = p *ℤ u.y +ℤ q *ℤ w.y; n = p *ℤ u.n +ℤ q *ℤ w.n }

pub four : (p q dx dy ax ay ux uy un wx wy wn : ℤ) → dx *ℤ ((p *ℤ uy +ℤ q *ℤ wy) -ℤ (p *ℤ un +ℤ q *ℤ wn) *ℤ ay) -ℤ dy *ℤ ((p *ℤ ux +ℤ q *ℤ wx) -ℤ (p *ℤ un +ℤ q *ℤ wn) *ℤ ax) ≡ p *ℤ (dx *ℤ (uy -ℤ un *ℤ ay) -ℤ dy *ℤ (ux -ℤ un *ℤ ax)) +ℤ q *ℤ (dx *ℤ (wy -ℤ wn *ℤ ay) -ℤ dy *ℤ (wx -ℤ wn *ℤ ax))
four p q dx dy ax ay ux uy un wx wy wn = simp ring (omega (arith, linear))

pub plucker : (ux uy vx vy wx wy dx dy : ℤ) → (vx *ℤ dy -ℤ vy *ℤ dx) *ℤ (ux *ℤ wy -ℤ uy *ℤ wx) ≡ (ux *ℤ vy -ℤ uy *ℤ vx) *ℤ (wx *ℤ dy -ℤ wy *ℤ dx) +ℤ (ux *ℤ dy -ℤ uy *ℤ dx) *ℤ (vx *ℤ wy -ℤ vy *ℤ wx)
plucker ux uy vx vy wx wy dx dy = simp ring (omega (arith, linear))
