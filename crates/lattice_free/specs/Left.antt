-- What is left of the runs from a column of the first one on.
use Rattle.std.specs.Prelude.{ℕ, ◌-◌, ◌<◌, List, [], ◌∷◌, ◌++◌, map, All}
use Rattle.std.specs.List.{range_with_len}
use Rattle.shape_exact.specs.declared.point.Point.{Point}
use Rattle.lattice_free.specs.declared.run.Run.{Run}
use Rattle.lattice_free.specs.Runs.{place, points_of, IsPitch, IsRun}

-- the first column of the first run
abbrev pub first_from : List Run → ℕ
first_from [] = 0
first_from (r ∷ rs) = r.from

-- the positions of the first run from the column on, and those of the later runs
abbrev pub left_of : ℕ → ℕ → List Run → List Point
left_of pitch column [] = []
left_of pitch column (r ∷ rs) = map (place pitch r.row) (range_with_len column (r.to - column)) ++ points_of pitch rs

-- the column is one of the first run, where there is one
abbrev pub IsWithinFirst : ℕ → List Run → Type 0
IsWithinFirst column [] = Unit {0}
IsWithinFirst column (r ∷ rs) = column < r.to

pub record AreLeft (pitch column : ℕ) (runs : List Run) : Type 0 where
  pub steps : IsPitch pitch
  pub each : All IsRun runs
  pub within : IsWithinFirst column runs
