-- The codes of a block that share a start, a plate and a turn.
use Rattle.std.specs.Prelude.{◌≡◌, ℕ, ◌+◌, ◌*◌, ◌<◌, ◌≤◌, List, Some, length, slice_get, All}
use Rattle.shape_exact.specs.Yards.{PlainYard}
use Rattle.lattice_free.specs.Runs.{IsPitch}
use Rattle.code_table.specs.declared.placement.Placement.{Placement}
use Rattle.code_table.specs.Placements.{placed, placements}
use Rattle.tardiness_bounds.specs.declared.stand.Stand.{Stand}
use Rattle.tardiness_bounds.specs.declared.standing.Standing.{Standing}
use Rattle.tardiness_bounds.specs.Neighbours.{AreNear, IsNeighbour}

-- the code of a row and a column
abbrev pub code_on : Stand → ℕ → ℕ → ℕ
code_on s row column = s.stretch.lo + (row * s.lattice.columns + column)

-- where it stands
abbrev pub place_on : Stand → ℕ → ℕ → Placement
place_on s row column =
    placed s.stretch.place.start s.stretch.place.end s.stretch.place.plate s.stretch.place.turn (row * s.lattice.pitch) (column * s.lattice.pitch)

-- the row and the column are some of the stand's
abbrev pub IsOnStand : Stand → ℕ → ℕ → Type 0
IsOnStand s row column = (row < s.lattice.rows) × (column < s.lattice.columns)

-- the stretch has one code for each row and column, row by row
pub record IsGrid (ps : List Placement) (s : Stand) : Type 0 where
  pub at : (j k : ℕ) → IsOnStand s j k → slice_get ps (code_on s j k) ≡ Some (place_on s j k)
  pub within : (j k : ℕ) → IsOnStand s j k → code_on s j k < s.stretch.hi
  pub each : (x : ℕ) → s.stretch.lo ≤ x → x < s.stretch.hi → (j : ℕ) × (k : ℕ) × IsOnStand s j k × (x ≡ code_on s j k)
  pub all : s.stretch.hi ≤ length ps

-- a stand of the block, within the limits, with footprints that exist
pub record IsGround (yard : PlainYard) (b : ℕ) (s : Stand) : Type 0 where
  pub grid : IsGrid (placements yard b) s
  pub turn : s.stretch.place.turn < 4
  pub pitch : IsPitch s.lattice.pitch
  pub rows : s.lattice.rows ≤ 401
  pub columns : s.lattice.columns ≤ 401
  pub neighbours : All (IsNeighbour yard) s.near.items

-- besides, with all that stands near
pub record IsStand (yard : PlainYard) (list : List Standing) (b : ℕ) (s : Stand) : Type 0 where
  pub ground : IsGround yard b s
  pub near : AreNear yard s.stretch.place list (length yard.fixed) s.near.items
