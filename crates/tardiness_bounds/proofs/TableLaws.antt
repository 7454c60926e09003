-- The slots of one block after another, and one obstacle after another.
use Rattle.std.proofs.Common.{◌≡◌, ℕ, zero, suc, ◌+◌, ◌*◌, ◌/◌, ◌%◌, ◌<◌, List, [], ◌∷◌, ◌++◌, length, Some, sym, ap, ◌∙◌, subst, inl, inr, arith}
use Rattle.std.specs.Prelude.{slice_get}
use Rattle.std.proofs.lemmas.Bool.{cases_lt}
use Rattle.std.proofs.lemmas.Nat.{div-mul-add, mod-mul-add, mul-add-lt}
use Rattle.std.proofs.lemmas.Option.{none-some, same_Some}
use Rattle.common_lists.proofs.ListLaws.{only_element, get_last}
use Rattle.shape_exact.specs.Yards.{PlainYard}
use Rattle.shape_exact.specs.declared.block.Block.{Block}
use Rattle.minkowski_obstacles.specs.Pairs.{Pair}
use Rattle.common_lists.proofs.EachLaws.{get-append_cases}
use Rattle.tardiness_bounds.specs.declared.stretches.StretchList.{StretchList}
use Rattle.tardiness_bounds.specs.declared.tables.SlotList.{SlotList}
use Rattle.tardiness_bounds.specs.Footprints.{footprint_count, pair_at, turned_count}
use Rattle.tardiness_bounds.specs.Obstacles.{AreObstacles, HaveObstacles}
use Rattle.tardiness_bounds.specs.Tables.{AreStretches, HaveSlots}
use Rattle.tardiness_bounds.specs.Slots.{AreSlots}
use Rattle.std.proofs.Math.Nat.{mul_comm}

-- the slots of one block more
pub slots_more : (yard : PlainYard) (blocks : List Block) (lists more : List SlotList) (i : ℕ) (block : Block) (s : SlotList)
    → length lists ≡ i → HaveSlots yard blocks lists → slice_get blocks i ≡ Some block → AreSlots yard block s.list.items → more ≡ lists ++ s ∷ []
    → HaveSlots yard blocks more
slots_more yard blocks lists more i block s long old at is pushed b bl t in_blocks in_lists =
    elim (get-append_cases lists (s ∷ []) b t (ap (λ ts. slice_get ts b) (sym pushed) ∙ in_lists)) [
      | inl front ↦ old b bl t in_blocks front
      | inr back ↦
          let (m, here, where_is) = back in
          let (first, same) = only_element s t m here in
          let e : b ≡ i = omega arith in
          let f : block ≡ bl = same_Some block bl (sym at ∙ ap (slice_get blocks) (sym e) ∙ in_blocks) in
          subst (λ bl. AreSlots yard bl t.list.items) f (subst (λ (s : SlotList). AreSlots yard block s.list.items) same is)
    ]

-- the stretches of one block more
pub stretches_more : (yard : PlainYard) (lists more : List StretchList) (s : StretchList) (n : ℕ) → length lists ≡ n
    → ((b : ℕ) (t : StretchList) → slice_get lists b ≡ Some t → AreStretches yard b t) → AreStretches yard n s → more ≡ lists ++ s ∷ []
    → (b : ℕ) (t : StretchList) → slice_get more b ≡ Some t → AreStretches yard b t
stretches_more yard lists more s n long old is pushed b t at =
    elim (get-append_cases lists (s ∷ []) b t (ap (λ ts. slice_get ts b) (sym pushed) ∙ at)) [
      | inl front ↦ old b t front
      | inr back ↦
          let (m, here, where_is) = back in
          let (first, same) = only_element s t m here in
          let e : n ≡ b = omega arith in
          subst (AreStretches yard b) same (subst (λ b. AreStretches yard b s) e is)
    ]

front_at : {A : Type 0} (xs : List A) (y x : A) (k : ℕ) → slice_get xs k ≡ Some x → slice_get (xs ++ y ∷ []) k ≡ Some x
front_at [] y x k e = absurd (none-some x e)
front_at (z ∷ xs) y x zero e = e
front_at (z ∷ xs) y x (suc k) e = front_at xs y x k e

-- one obstacle more
pub obstacles_more : (yard : PlainYard) (n turned : ℕ) (list more : List Pair) (p : Pair) → length list ≡ n → HaveObstacles yard n list
    → turned ≡ turned_count yard → p ≡ pair_at yard (n / turned) (n % turned) → more ≡ list ++ p ∷ [] → HaveObstacles yard (n + 1) more
obstacles_more yard n turned list more p long h same is pushed k l =
    subst (λ xs. slice_get xs k ≡ Some (pair_at yard (k / turned_count yard) (k % turned_count yard))) (sym pushed)
    (elim (cases_lt k n) [
      | inl less ↦ front_at list p (pair_at yard (k / turned_count yard) (k % turned_count yard)) k (h k less)
      | inr after ↦
          let e : n ≡ k = omega arith in
          subst (λ k. slice_get (list ++ p ∷ []) k ≡ Some (pair_at yard (k / turned_count yard) (k % turned_count yard))) e
          (subst (λ m. slice_get (list ++ p ∷ []) m ≡ Some (pair_at yard (n / turned_count yard) (n % turned_count yard))) long
          (get_last list p ∙ ap Some (is ∙ ap (λ s. pair_at yard (n / s) (n % s)) same)))
    ])

-- the number of an obstacle tells its footprints
pub obstacle_number : (yard : PlainYard) (list : List Pair) (a b turned k : ℕ) → AreObstacles yard list → turned ≡ turned_count yard
    → a < footprint_count yard → b < turned_count yard → k ≡ a * turned + b
    → (k < length list) × (slice_get list k ≡ Some (pair_at yard a b))
obstacle_number yard list a b turned k are is la lb e =
    let k_is : k ≡ a * turned_count yard + b = e ∙ ap (λ s. a * s + b) is in
    let within : k < footprint_count yard * turned_count yard =
    (let m = mul-add-lt a (turned_count yard) b (footprint_count yard) la lb in
    let c = mul_comm (turned_count yard) (footprint_count yard) in omega arith) in
    let f : k / turned_count yard ≡ a = ap (λ k. k / turned_count yard) k_is ∙ div-mul-add a (turned_count yard) b lb in
    let m : k % turned_count yard ≡ b = ap (λ k. k % turned_count yard) k_is ∙ mod-mul-add a (turned_count yard) b lb in (
      (let l = are.len in omega arith),
      are.each k within ∙ ap (λ i. Some (pair_at yard i (k % turned_count yard))) f ∙ ap (λ j. Some (pair_at yard a j)) m,
    )
