-- The placement that a row tells.
use Rattle.std.specs.Prelude.{ℕ, ◌≤◌, Bool, ◌&&◌, ◌==◌, List, slice_get, position, Option, Some}
use Rattle.std.specs.Str.{bytes_eq}
use Rattle.text_parts.specs.Parts.{◌>>=◌}
use Rattle.shape_exact.specs.Yards.{PlainYard}
use Rattle.shape_exact.specs.declared.block.Block.{Block}
use Rattle.shape_exact.specs.declared.plate.Plate.{Plate}
use Rattle.plate_calendar.specs.Calendars.{open_days, end_of}
use Rattle.code_table.specs.declared.placement.Placement.{Placement}
use Rattle.code_table.specs.Placements.{placed, placements_of}
use Rattle.plan_text.specs.Rows.{Entry}

-- the number of the plate with this name
abbrev pub plate_named : PlainYard → List ℕ → Option ℕ
plate_named yard name = position (λ (p : Plate). bytes_eq p.name name) yard.plates

-- the day on which a block ends that starts on a day of a plate, by the plate's open days
abbrev pub end_on : PlainYard → Block → ℕ → ℕ → Option ℕ
end_on yard block p start =
    slice_get yard.plates p >>= λ (plate : Plate). end_of (open_days yard.days plate.closed) start block.duration

-- the placements have the same fields
abbrev pub is_same : Placement → Placement → Bool
is_same p q =
    ((((p.start == q.start && p.end == q.end) && p.plate == q.plate) && p.turn == q.turn) && p.y == q.y) && p.x == q.x

-- the code of a placement: its place in the list of placements
abbrev pub code_in : List Placement → Placement → Option ℕ
code_in ps p = position (λ q. is_same p q) ps

-- the figures that tell a placement are within its fields
pub record HasFields (row : Entry) : Type 0 where
  pub turn : row.turn ≤ 255
  pub x : row.x ≤ 65535
  pub y : row.y ≤ 65535
  pub start : row.start ≤ 65535

-- the code, and the end, of the block's placement that the row tells on this plate
unfoldable pub told_at : PlainYard → Block → ℕ → Entry → Option (ℕ × ℕ)
told_at yard block p row = do
  end ← end_on yard block p row.start
  code ← code_in (placements_of yard block) (placed row.start end p row.turn row.y row.x)
  Some (code, end)
