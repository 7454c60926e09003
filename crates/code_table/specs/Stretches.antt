-- Codes that share a start, an end, a plate and a turn.
use Rattle.std.specs.Prelude.{◌≡◌, ℕ, ◌*◌, ◌-◌, ◌/◌, ◌%◌, ◌≤◌, ◌<◌, List, Some, length, slice_get}
use Rattle.code_table.specs.declared.placement.Placement.{Placement}
use Rattle.code_table.specs.declared.stretch.Stretch.{Stretch}
use Rattle.code_table.specs.Placements.{placed}

-- where a code of a stretch stands: row by row from the stretch's first code on
abbrev pub nth_place : Stretch → ℕ → Placement
nth_place s code =
    placed s.place.start s.place.end s.place.plate s.place.turn ((code - s.lo) / s.columns * s.pitch) ((code - s.lo) % s.columns * s.pitch)

-- the placements of a list from the stretch's first code, at (0, 0), to its last are where the stretch has them
pub record IsStretch (ps : List Placement) (s : Stretch) : Type 0 where
  pub within : s.hi ≤ length ps
  pub corner : (s.place.y ≡ 0) × (s.place.x ≡ 0)
  pub columns : 0 < s.columns
  pub each : (code : ℕ) → s.lo ≤ code → code < s.hi → slice_get ps code ≡ Some (nth_place s code)

-- each placement of a list with the stretch's start, plate and turn is one of the stretch's
abbrev pub HasEach : List Placement → Stretch → Type 0
HasEach ps s =
    (code : ℕ) (p : Placement) → slice_get ps code ≡ Some p → p.start ≡ s.place.start → p.plate ≡ s.place.plate → p.turn ≡ s.place.turn
    → (s.lo ≤ code) × (code < s.hi)
