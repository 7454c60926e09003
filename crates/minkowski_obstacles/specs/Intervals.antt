-- Intervals of whole numbers.
use Rattle.std.specs.Prelude.{ℤ, ◌≤ℤ◌}
use Rattle.minkowski_obstacles.specs.declared.interval.Interval.{Interval}

-- x is one of the numbers of the interval
abbrev pub Holds : Interval → ℤ → Type 0
Holds s x = (s.low ≤ℤ x) × (x ≤ℤ s.high)
