-- Free placements of a block beside blocks that stand and pieces, and the cheapest of them.
use Rattle.std.specs.Prelude.{◌≡◌, ℕ, ◌<◌, List, Some, slice_get}
use Rattle.shape_exact.specs.Yards.{PlainYard}
use Rattle.shape_exact.specs.declared.block.Block.{Block}
use Rattle.code_table.specs.declared.placement.Placement.{Placement}
use Rattle.code_table.specs.Placements.{IsPlacement}
use Rattle.tardiness_bounds.specs.declared.slot.Slot.{Slot}
use Rattle.tardiness_bounds.specs.declared.standing.Standing.{Standing}
use Rattle.tardiness_bounds.specs.declared.witness.Witness.{Witness}
use Rattle.tardiness_bounds.specs.Tables.{PlainTables}
use Rattle.tardiness_bounds.specs.Slots.{IsIn}
use Rattle.tardiness_bounds.specs.declared.near.Neighbour.{Neighbour}
use Rattle.tardiness_bounds.specs.Neighbours.{IsClearOfNear}
use Rattle.tardiness_bounds.specs.Standings.{IsClear}

-- a placement of the block in the slot that is clear of the blocks that stand and of the pieces
pub record IsFree (yard : PlainYard) (list : List Standing) (b : ℕ) (s : Slot) (p : Placement) : Type 0 where
  pub block : Block
  pub block_is : slice_get yard.blocks b ≡ Some block
  pub placement : IsPlacement yard block p
  pub within : IsIn s p
  pub clear : IsClear yard list b p

-- the same of what stands near
pub record IsFreeNear (yard : PlainYard) (near : List Neighbour) (b : ℕ) (s : Slot) (p : Placement) : Type 0 where
  pub block : Block
  pub block_is : slice_get yard.blocks b ≡ Some block
  pub placement : IsPlacement yard block p
  pub within : IsIn s p
  pub clear : IsClearOfNear yard near b p

-- no placement in the slot is free
abbrev pub IsFull : PlainYard → List Standing → ℕ → Slot → Type 0
IsFull yard list b s = (p : Placement) → IsFree yard list b s p → ⊥

-- no placement in the slot is free of what stands near
abbrev pub IsFullNear : PlainYard → List Neighbour → ℕ → Slot → Type 0
IsFullNear yard near b s = (p : Placement) → IsFreeNear yard near b s p → ⊥

-- the first n slots of the block are full
abbrev pub AreFull : PlainTables → List Standing → ℕ → ℕ → Type 0
AreFull t list b n =
    (slots : List Slot) (i : ℕ) (s : Slot) → slice_get t.slots b ≡ Some slots → i < n → slice_get slots i ≡ Some s → IsFull t.yard list b s

-- no placement of the block is clear of the blocks that stand and of the pieces
abbrev pub HasNoPlace : PlainYard → List Standing → ℕ → Type 0
HasNoPlace yard list b =
    (block : Block) (p : Placement) → slice_get yard.blocks b ≡ Some block → IsPlacement yard block p → IsClear yard list b p → ⊥

-- a free placement in the first slot that is not full
pub record IsWitness (t : PlainTables) (list : List Standing) (b : ℕ) (w : Witness) : Type 0 where
  pub slots : List Slot
  pub slot : Slot
  pub slots_are : slice_get t.slots b ≡ Some slots
  pub slot_is : slice_get slots w.slot ≡ Some slot
  pub cost : w.cost ≡ slot.cost
  pub free : IsFree t.yard list b slot w.place
  pub before : AreFull t list b w.slot
