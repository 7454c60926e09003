-- Slots: the starts of a block on the plates, by what they cost.
use Rattle.std.specs.Prelude.{◌≡◌, ℕ, ◌/◌, ◌%◌, ◌<◌, List, length, All, Any}
use Rattle.std.specs.List.Sorted.{IsNonDecreasingBy}
use Rattle.shape_exact.specs.Yards.{PlainYard}
use Rattle.shape_exact.specs.declared.block.Block.{Block}
use Rattle.code_table.specs.declared.placement.Placement.{Placement}
use Rattle.code_table.specs.Placements.{IsPlacement, cost_on, placed}
use Rattle.code_table.specs.Stands.{EndsOn}
use Rattle.tardiness_bounds.specs.declared.slot.Slot.{Slot}

-- the block may start there, ends there on that day, and costs so much
pub record IsSlot (yard : PlainYard) (block : Block) (s : Slot) : Type 0 where
  pub start : s.start < yard.days
  pub ends : EndsOn yard block s.start s.plate s.end
  pub cost : s.cost ≡ cost_on block s.end

-- the slot has this start and this plate
abbrev pub StartsAt : ℕ → ℕ → Slot → Type 0
StartsAt start plate s = (s.start ≡ start) × (s.plate ≡ plate)

-- a slot of this start and this plate
abbrev pub IsSlotOf : PlainYard → Block → ℕ → ℕ → Slot → Type 0
IsSlotOf yard block start plate s = IsSlot yard block s × StartsAt start plate s

-- each of the first n starts and plates at which the block has an end has a slot
abbrev pub HaveStarts : PlainYard → Block → ℕ → List Slot → Type 0
HaveStarts yard block n slots =
    (k end : ℕ) → k < n → EndsOn yard block (k / length yard.plates) (k % length yard.plates) end
    → Any (StartsAt (k / length yard.plates) (k % length yard.plates)) slots

-- the placement has the slot's start and plate
abbrev pub IsIn : Slot → Placement → Type 0
IsIn s p = (p.start ≡ s.start) × (p.plate ≡ s.plate)

-- the slots of a block: each of its placements is in one, and they ascend by cost
pub record AreSlots (yard : PlainYard) (block : Block) (slots : List Slot) : Type 0 where
  pub each : All (IsSlot yard block) slots
  pub all : (p : Placement) → IsPlacement yard block p → Any (λ s. IsIn s p) slots
  pub ascending : IsNonDecreasingBy (λ s. s.cost) slots

-- the slot as a placement, at the corner of the plate
abbrev pub place_of_slot : Slot → Placement
place_of_slot s = placed s.start s.end s.plate 0 0 0
