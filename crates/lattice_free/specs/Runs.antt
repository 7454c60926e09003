-- Runs of free columns, and the positions that they stand for.
use Rattle.std.specs.Prelude.{ℕ, pos, ◌-◌, ◌*◌, ◌<◌, ◌≤◌, List, map, All, length}
use Rattle.std.specs.List.{flat_map, range_with_len}
use Rattle.shape_exact.specs.declared.point.Point.{Point}
use Rattle.lattice_free.specs.declared.run.Run.{Run}

-- the position of a column of a row
abbrev pub place : ℕ → ℕ → ℕ → Point
place pitch row column = record { x = pos (column * pitch); y = pos (row * pitch) }

-- the positions of a run, ascending
abbrev pub run_points : ℕ → Run → List Point
run_points pitch r = map (place pitch r.row) (range_with_len r.from (r.to - r.from))

-- the positions of all runs
abbrev pub points_of : ℕ → List Run → List Point
points_of pitch runs = flat_map (run_points pitch) runs

-- a pitch within the limits
abbrev pub IsPitch : ℕ → Type 0
IsPitch pitch = (1 ≤ pitch) × (pitch ≤ 100)

-- a run of at least one column, within the greatest plate
pub record IsRun (r : Run) : Type 0 where
  pub some : r.from < r.to
  pub columns : r.to ≤ 401
  pub row : r.row ≤ 401

-- the runs of a plate: of a pitch within the limits, each within the greatest plate, and not too many positions to count
pub record AreRuns (pitch : ℕ) (runs : List Run) : Type 0 where
  pub steps : IsPitch pitch
  pub each : All IsRun runs
  pub few : length (points_of pitch runs) ≤ 160801
