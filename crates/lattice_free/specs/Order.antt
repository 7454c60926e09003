-- The order of positions: by y, and then by x.
use Rattle.std.specs.Prelude.{ℕ, Bool, pos, ◌||◌, ◌&&◌, int_lt, not, ◌≡◌, ◌<ℤ◌, ◌⊎◌}
use Rattle.shape_exact.specs.declared.point.Point.{Point}

-- the position is at or after the one of y and x
abbrev pub is_from : ℕ → ℕ → Point → Bool
is_from y x p = int_lt (pos y) p.y || (not (int_lt p.y (pos y)) && not (int_lt p.x (pos x)))

-- a position comes before another
abbrev pub IsBefore : Point → Point → Type 0
IsBefore p q = (p.y <ℤ q.y) ⊎ ((p.y ≡ q.y) × (p.x <ℤ q.x))
