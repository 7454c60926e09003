-- The slots of a block, start by start and plate by plate.
use Rattle.std.proofs.Common.{◌≡◌, ℕ, ◌+◌, ◌*◌, ◌/◌, ◌%◌, ◌<◌, ◌≤◌, List, [], ◌∷◌, ◌++◌, length, Some, sym, ap, ◌∙◌, subst, arith}
use Rattle.std.specs.Prelude.{All, Any, Contains, slice_get}
use Rattle.std.specs.List.Sorted.{IsPermutation, IsNonDecreasingBy}
use Rattle.std.proofs.lemmas.Nat.{div-mul-add, mod-mul-add, mul-add-lt}
use Rattle.std.proofs.Math.Nat.{mul_comm}
use Rattle.std.proofs.lemmas.Option.{slice_get_within}
use Rattle.std.proofs.lemmas.List.Elements.{Contains-append_left, Contains-push}
use Rattle.std.proofs.lemmas.List.Sorted.{All-permutation}
use Rattle.common_lists.proofs.ListLaws.{any_permuted}
use Rattle.common_lists.proofs.NumberLaws.{last_or}
use Rattle.shape_exact.specs.Yards.{PlainYard}
use Rattle.shape_exact.specs.declared.block.Block.{Block}
use Rattle.shape_exact.specs.declared.plate.Plate.{Plate}
use Rattle.plate_calendar.specs.Calendars.{open_days, end_of}
use Rattle.code_table.specs.declared.placement.Placement.{Placement}
use Rattle.code_table.specs.Placements.{IsPlacement, cost_on}
use Rattle.code_table.specs.Stands.{EndsOn}
use Rattle.tardiness_bounds.specs.declared.slot.Slot.{Slot}
use Rattle.tardiness_bounds.specs.Slots.{AreSlots, HaveStarts, IsIn, IsSlot, StartsAt}

-- an element with a property
pub any_of : {A : Type 0} (P : A → Type 0) (xs : List A) (x : A) → Contains xs x → P x → Any P xs
any_of P xs x (k, within, is) p = (k, x, within, is, p)

any_append : {A : Type 0} (P : A → Type 0) (xs ys : List A) → Any P xs → Any P (xs ++ ys)
any_append P xs ys (k, x, within, is, p) = any_of P (xs ++ ys) x (Contains-append_left xs ys x (k, within, is)) p

any_push : {A : Type 0} (P : A → Type 0) (xs : List A) (x : A) → P x → Any P (xs ++ x ∷ [])
any_push P xs x p = any_of P (xs ++ x ∷ []) x (Contains-push xs x) p

-- a start and a plate without an end
pub starts_past : (yard : PlainYard) (block : Block) (n : ℕ) (slots : List Slot) → HaveStarts yard block n slots
    → ((end : ℕ) → EndsOn yard block (n / length yard.plates) (n % length yard.plates) end → ⊥) → HaveStarts yard block (n + 1) slots
starts_past yard block n slots h none k end l =
    last_or (λ k. EndsOn yard block (k / length yard.plates) (k % length yard.plates) end → Any (StartsAt (k / length yard.plates) (k % length yard.plates)) slots)
    n k l (λ less. h k end less) (λ e. absurd (none end e))

-- one with an end
pub starts_more : (yard : PlainYard) (block : Block) (n : ℕ) (slots : List Slot) (s : Slot) → HaveStarts yard block n slots
    → StartsAt (n / length yard.plates) (n % length yard.plates) s → HaveStarts yard block (n + 1) (slots ++ s ∷ [])
starts_more yard block n slots s h at k end l =
    last_or (λ k. EndsOn yard block (k / length yard.plates) (k % length yard.plates) end → Any (StartsAt (k / length yard.plates) (k % length yard.plates)) (slots ++ s ∷ []))
    n k l
    (λ less e. any_append (StartsAt (k / length yard.plates) (k % length yard.plates)) slots (s ∷ []) (h k end less e))
    (λ e. any_push (StartsAt (n / length yard.plates) (n % length yard.plates)) slots s at)

-- the day and the plate of a placement have an end
pub ends_on : (yard : PlainYard) (block : Block) (p : Placement) → IsPlacement yard block p → EndsOn yard block p.start p.plate p.end
ends_on yard block p is = record { plate = is.plate; plate_is = is.plate_is; released = is.released; end_is = is.end_is }

in_starts : (s : Slot) (p : Placement) → StartsAt p.start p.plate s → IsIn s p
in_starts s p (a, b) = (sym a, sym b)

any_in : (slots : List Slot) (p : Placement) → Any (StartsAt p.start p.plate) slots → Any (λ s. IsIn s p) slots
any_in slots p (k, s, within, is, at) = (k, s, within, is, in_starts s p at)

-- all starts on all plates are those of the block's placements
pub all_placed : (yard : PlainYard) (block : Block) (slots : List Slot) (p : Placement)
    → HaveStarts yard block (yard.days * length yard.plates) slots → IsPlacement yard block p → Any (λ s. IsIn s p) slots
all_placed yard block slots p h is =
    let n : ℕ = length yard.plates in
    let plate : p.plate < length yard.plates = slice_get_within yard.plates p.plate is.plate is.plate_is in
    let k : ℕ = p.start * length yard.plates + p.plate in
    let below : p.start * length yard.plates + p.plate < yard.days * length yard.plates = (let m = mul-add-lt p.start (length yard.plates) p.plate yard.days is.start plate in let c = mul_comm (length yard.plates) yard.days in omega arith) in
    let start : (p.start * length yard.plates + p.plate) / length yard.plates ≡ p.start = div-mul-add p.start (length yard.plates) p.plate plate in
    let on : (p.start * length yard.plates + p.plate) % length yard.plates ≡ p.plate = mod-mul-add p.start (length yard.plates) p.plate plate in
    any_in slots p
    (subst (λ b. Any (StartsAt p.start b) slots) on
    (subst (λ a. Any (StartsAt a ((p.start * length yard.plates + p.plate) % length yard.plates)) slots) start
    (h (p.start * length yard.plates + p.plate) p.end below
    (subst (λ a. EndsOn yard block a ((p.start * length yard.plates + p.plate) % length yard.plates) p.end) (sym start)
    (subst (λ b. EndsOn yard block p.start b p.end) (sym on) (ends_on yard block p is))))))

-- sorted by cost, they are the slots of the block
pub sorted_slots : (yard : PlainYard) (block : Block) (slots sorted : List Slot) → IsPermutation slots sorted → IsNonDecreasingBy (λ s. s.cost) sorted
    → All (IsSlot yard block) slots → HaveStarts yard block (yard.days * length yard.plates) slots → AreSlots yard block sorted
sorted_slots yard block slots sorted perm up each all = record {
  each = All-permutation (IsSlot yard block) slots sorted perm each;
  all = λ p is. any_permuted (λ s. IsIn s p) slots sorted perm (all_placed yard block slots p all is);
  ascending = up;
}

-- the slot of a start that has an end
pub slot_is : (yard : PlainYard) (block : Block) (start p end cost : ℕ) (plate : Plate) (opens : List ℕ) → start < yard.days → block.release ≤ start
    → slice_get yard.plates p ≡ Some plate → opens ≡ open_days yard.days plate.closed → Some end ≡ end_of opens start block.duration
    → cost ≡ cost_on block end → IsSlot yard block (record { start = start; end = end; plate = p; cost = cost })
slot_is yard block start p end cost plate opens l released at same is c = record {
  start = l;
  ends = record { plate = plate; plate_is = at; released = released; end_is = sym (is ∙ ap (λ o. end_of o start block.duration) same) };
  cost = c;
}
