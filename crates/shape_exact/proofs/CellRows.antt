-- Worked examples of turns and cells.
use Rattle.std.proofs.Common.{◌≡◌, ℕ, [], ◌∷◌, refl}
use Rattle.std.specs.Prelude.{pos}
use Rattle.shape_exact.specs.declared.point.Point.{Point}
use Rattle.shape_exact.specs.Shapes.{cells, turned}

abbrev at : ℕ → ℕ → Point
at x y = record { x = pos x; y = pos y }

-- six centres are strictly inside half of the square of four units, and those on the slope are not
half_square : cells (at 0 0 ∷ at 4 0 ∷ at 0 4 ∷ []) ≡ 6
half_square = refl

thin_triangle : cells (at 0 0 ∷ at 1 0 ∷ at 0 3 ∷ []) ≡ 1
thin_triangle = refl

-- eight centres lie on the sides of the diamond
diamond : cells (at 2 0 ∷ at 4 2 ∷ at 2 4 ∷ at 0 2 ∷ []) ≡ 4
diamond = refl

-- a quarter turn goes counterclockwise: what lay to the right lies above
turned_triangle : turned 1 (at 0 0 ∷ at 4 0 ∷ at 0 1 ∷ []) ≡ at 1 0 ∷ at 1 4 ∷ at 0 0 ∷ []
turned_triangle = refl
