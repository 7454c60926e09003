-- What is made once of a yard to find free tables.
use Rattle.std.specs.Prelude.{◌≡◌, ℕ, ◌≤◌, List, length, map, Some, slice_get, All}
use Rattle.shape_exact.specs.Yards.{PlainYard}
use Rattle.shape_exact.specs.declared.block.Block.{Block}
use Rattle.code_table.specs.Placements.{placements}
use Rattle.code_table.specs.Stretches.{IsStretch}
use Rattle.tardiness_bounds.specs.declared.tables.SlotList.{SlotList}
use Rattle.tardiness_bounds.specs.declared.stretches.StretchList.{StretchList}
use Rattle.tardiness_bounds.specs.declared.slot.Slot.{Slot}
use Rattle.tardiness_bounds.specs.Slots.{AreSlots}

-- a yard, and the slots of each of its blocks
pub record PlainTables : Type 0 where
  pub yard : PlainYard
  pub slots : List (List Slot)

abbrev pub lists_of : List SlotList → List (List Slot)
lists_of slots = map (λ s. s.list.items) slots

-- the slots of these blocks
abbrev pub HaveSlots : PlainYard → List Block → List SlotList → Type 0
HaveSlots yard blocks slots =
    (b : ℕ) (block : Block) (s : SlotList) → slice_get blocks b ≡ Some block → slice_get slots b ≡ Some s → AreSlots yard block s.list.items

-- the slots of each block
pub record AreAllSlots (yard : PlainYard) (slots : List SlotList) : Type 0 where
  pub one_each : length slots ≡ length yard.blocks
  pub each : HaveSlots yard yard.blocks slots

-- stretches of the block's codes
pub record AreStretches (yard : PlainYard) (b : ℕ) (s : StretchList) : Type 0 where
  pub step : 1 ≤ s.step
  pub each : All (IsStretch (placements yard b)) s.list.items

-- those of each block
pub record AreAllStretches (yard : PlainYard) (stretches : List StretchList) : Type 0 where
  pub one_each : length stretches ≡ length yard.blocks
  pub each : (b : ℕ) (s : StretchList) → slice_get stretches b ≡ Some s → AreStretches yard b s
