-- The columns of a row of cells.
use Rattle.std.specs.Prelude.{ℕ, ℤ, pos, ◌+ℤ◌, ◌*ℤ◌, ◌≤ℤ◌, List, if◌then◌else◌}
use Rattle.shape_exact.specs.declared.cells.Interval.{Interval}
use Rattle.shape_exact.specs.declared.point.Point.{Point}
use Rattle.common_lists.specs.Each.{sum_below}
use Rattle.shape_exact.specs.Shapes.{Spot, centre, is_inside}

-- the number is one of the interval
abbrev pub Holds : Interval → ℤ → Type 0
Holds s i = (s.low ≤ℤ i) × (i ≤ℤ s.high)

-- the centre of the cell in this column and this row
abbrev pub centre_of : ℤ → ℤ → Spot
centre_of i j = record { x = pos 2 *ℤ i +ℤ pos 1; y = pos 2 *ℤ j +ℤ pos 1; n = 2 }

-- the spot after a shift
abbrev pub moved_spot : Point → Spot → Spot
moved_spot by s = record { x = s.x +ℤ pos s.n *ℤ by.x; y = s.y +ℤ pos s.n *ℤ by.y; n = s.n }

-- how many cells of a rectangle, so wide and so high, have their centre strictly inside the shape at its place
abbrev pub cells_on : ℕ → ℕ → List Point → Point → ℕ
cells_on width height shape at =
    sum_below height (λ j. sum_below width (λ i. if is_inside shape at (centre i j) then 1 else 0))
