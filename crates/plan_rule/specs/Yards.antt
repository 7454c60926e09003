-- What a yard leaves to choose.
use Rattle.std.specs.Prelude.{ℕ, ◌*◌, max, min, map, length, Option, Some, None, slice_get}
use Rattle.std.specs.List.{range_with_len}
use Rattle.std.specs.Option.{option_map_or}
use Rattle.shape_exact.specs.Yards.{PlainYard}
use Rattle.shape_exact.specs.declared.block.Block.{Block}
use Rattle.shape_exact.specs.declared.plate.Plate.{Plate}
use Rattle.shape_exact.specs.declared.fixed.Fixed.{Fixed}
use Rattle.shape_exact.specs.Shapes.{cells}
use Rattle.plate_calendar.specs.Calendars.{open_days, open_between}
use Rattle.common_lists.specs.Each.{sum_below}
use Rattle.code_table.specs.declared.placement.Placement.{Placement}
use Rattle.code_table.specs.Placements.{placements, own_cost}
use Rattle.plan_rule.specs.Choices.{Choices}
use Rattle.plan_rule.specs.Clashes.{Clash, MeetsPiece}

-- a figure of the block with this number
abbrev pub figure : PlainYard → (Block → ℕ) → ℕ → ℕ
figure yard f b = option_map_or f (slice_get yard.blocks b) 0

-- how many open days of a plate lie in a window
abbrev pub plate_days : PlainYard → ℕ → ℕ → Plate → ℕ
plate_days yard first last plate = open_between (open_days yard.days plate.closed) first last

-- the cells of the plates, once for each open day in a window
unfoldable pub capacity : PlainYard → ℕ → ℕ → ℕ
capacity yard first last =
    sum_below (length yard.plates)
    (λ p. option_map_or (λ plate. plate_days yard first last plate * (plate.height * plate.width)) (slice_get yard.plates p) 0)

-- what a placement of a block takes: its cells, once for each open day of its plate in its span and in a window
abbrev pub taken_by : PlainYard → ℕ → ℕ → Option Block → Option Placement → ℕ
taken_by yard first last None p = 0
taken_by yard first last (Some block) None = 0
taken_by yard first last (Some block) (Some p) =
    option_map_or (plate_days yard (max first p.start) (min last p.end)) (slice_get yard.plates p.plate) 0 * cells block.shape

-- the cells of a block at a code, once for each open day of its plate in its span and in a window
unfoldable pub taken : PlainYard → ℕ → ℕ → ℕ → ℕ → ℕ
taken yard first last b code = taken_by yard first last (slice_get yard.blocks b) (slice_get (placements yard b) code)

-- what a piece takes: its cells, once for each open day of its plate in its days and in a window
abbrev pub stood_by : PlainYard → ℕ → ℕ → Fixed → ℕ
stood_by yard first last f =
    option_map_or (plate_days yard (max first f.from) (min last f.to)) (slice_get yard.plates f.plate) 0 * cells f.shape

-- what the pieces take in a window
unfoldable pub standing : PlainYard → ℕ → ℕ → ℕ
standing yard first last =
    sum_below (length yard.fixed) (λ i. option_map_or (stood_by yard first last) (slice_get yard.fixed i) 0)

-- the blocks' codes, their costs, their clashes and which of them meet a piece, and the figures for the energy
unfoldable pub choices : PlainYard → Choices
choices yard = record {
  counts = map (λ b. length (placements yard b)) (range_with_len 0 (length yard.blocks));
  cost = own_cost yard;
  Clash = Clash yard;
  Meets = MeetsPiece yard;
  days = yard.days;
  release = figure yard (λ block. block.release);
  due = figure yard (λ block. block.due);
  weight = figure yard (λ block. block.weight);
  work = figure yard (λ block. block.duration * cells block.shape);
  capacity = capacity yard;
  taken = taken yard;
  standing = standing yard;
}
