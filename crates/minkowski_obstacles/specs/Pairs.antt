-- A fixed footprint and a moving one, and the offsets at which they have a spot in common.
use Rattle.std.specs.Prelude.{◌<◌, ℤ, ◌<ℤ◌, ◌≤ℤ◌, IsTrue, List}
use Rattle.shape_exact.specs.declared.point.Point.{Point}
use Rattle.shape_exact.specs.Shapes.{Spot, is_inside, origin, AreApart}

-- the vertices of both, the fixed one at (0, 0)
pub record Pair : Type 0 where
  pub fixed : List Point
  pub moving : List Point

-- no spot is strictly inside both, the moving one shifted by the offset
abbrev pub AreApartAt : Pair → Point → Type 0
AreApartAt pair w = AreApart pair.fixed origin pair.moving w

-- some spot is strictly inside both
abbrev pub Overlap : Pair → Point → Type 0
Overlap pair w =
    (s : Spot) × (0 < s.n) × IsTrue (is_inside pair.fixed origin s) × IsTrue (is_inside pair.moving w s)

-- the offset that has these coordinates
abbrev pub offset : ℤ → ℤ → Point
offset x y = record { x = x; y = y }

-- at no whole x of the row do they overlap
abbrev pub IsEmptyRow : Pair → ℤ → Type 0
IsEmptyRow pair y = (x : ℤ) → AreApartAt pair (offset x y)

-- the whole x of the row at which they overlap are those from low to high, and there is one
pub record IsRow (pair : Pair) (y low high : ℤ) : Type 0 where
  pub some : low ≤ℤ high
  pub inside : (x : ℤ) → low ≤ℤ x → x ≤ℤ high → Overlap pair (offset x y)
  pub left : (x : ℤ) → x <ℤ low → AreApartAt pair (offset x y)
  pub right : (x : ℤ) → high <ℤ x → AreApartAt pair (offset x y)
