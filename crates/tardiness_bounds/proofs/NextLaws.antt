-- What is left to a block where one more block stands.
use Rattle.std.proofs.Common.{◌≡◌, ◌≢◌, ℕ, ◌+◌, ◌<◌, List, [], ◌∷◌, ◌++◌, length, Some, sym, ap, ◌∙◌, subst, inl, inr, arith}
use Rattle.std.specs.Prelude.{slice_get, All}
use Rattle.std.proofs.lemmas.Option.{slice_get_within}
use Rattle.common_lists.proofs.EachLaws.{get-append_cases}
use Rattle.common_lists.proofs.ListLaws.{only_element}
use Rattle.minkowski_obstacles.proofs.ObstacleLaws.{all_push_back}
use Rattle.shape_exact.specs.Yards.{PlainYard}
use Rattle.shape_exact.specs.declared.block.Block.{Block}
use Rattle.code_table.specs.declared.placement.Placement.{Placement}
use Rattle.code_table.specs.Placements.{cost_at, cost_of, own_cost, placements}
use Rattle.plan_rule.specs.Boxes.{HasExact, LeavesFree}
use Rattle.plan_rule.specs.Choices.{IsCode}
use Rattle.plan_rule.specs.Yards.{choices}
use Rattle.plan_rule.proofs.CountLaws.{blocks-length, cost_is, is_code}
use Rattle.tardiness_bounds.specs.declared.left.Left.{Left}
use Rattle.tardiness_bounds.specs.declared.left.Left.TheVariants.{Stands, Free, Never}
use Rattle.tardiness_bounds.specs.declared.standing.Standing.{Standing}
use Rattle.tardiness_bounds.specs.declared.witness.Witness.{Witness}
use Rattle.tardiness_bounds.specs.Lefts.{IsLeft, IsLeftBefore}
use Rattle.tardiness_bounds.specs.Tables.{PlainTables}
use Rattle.tardiness_bounds.specs.Standings.{IsStanding, ClashesAt, literals_of}
use Rattle.tardiness_bounds.specs.Witnesses.{AreFull, HasNoPlace, IsWitness}
use Rattle.tardiness_bounds.proofs.FitLaws.{exact_more, exact_new, free_more, full_more, none_more, witness_more}

-- what a code costs, by its placement
pub own_cost_at : (yard : PlainYard) (b code : ℕ) (block : Block) (p : Placement) → slice_get yard.blocks b ≡ Some block → slice_get (placements yard b) code ≡ Some p
    → own_cost yard b code ≡ cost_at block p
own_cost_at yard b code block p at is = ap (λ o. cost_of o (slice_get (placements yard b) code)) at ∙ ap (cost_of (Some block)) is

-- the code of a block that stands exists
pub standing_code : (t : PlainTables) (f : Standing) → IsStanding t.yard f → IsCode (choices t.yard) f.block f.code
standing_code t f s =
    let n = blocks-length t.yard in
    let l = s.block in
    is_code t.yard f.block f.code (omega arith) (slice_get_within (placements t.yard f.block) f.code f.place s.code)

-- the block itself
pub next_here : (t : PlainTables) (list : List Standing) (new : Standing) (b cost : ℕ) (x : Left) → IsLeftBefore t list new b x → IsStanding t.yard new
    → b ≡ new.block → cost ≡ own_cost t.yard b new.code → IsLeft t list b (Stands cost)
next_here t list new b cost x h s e is =
    subst (λ b. IsLeft t list b (Stands cost)) (sym e) (
      new.code,
      subst (λ l. HasExact (literals_of l) new.block new.code) (sym h.ends) (exact_new h.before new h.free),
      standing_code t new s,
      is ∙ sym (cost_is t.yard b new.code) ∙ ap (λ b. (choices t.yard).cost b new.code) e,
    )

-- where what is left to the block is a witness, it does not clash with the new block
abbrev pub IsApart : PlainTables → Standing → ℕ → Left → Type 0
IsApart t new b (Stands cost) = Unit {0}
IsApart t new b (Free w) = ClashesAt t.yard new b w.place → ⊥
IsApart t new b Never = Unit {0}

-- another block whose witness does not clash with it
pub next_kept : (t : PlainTables) (list : List Standing) (new : Standing) (b : ℕ) (x : Left) → IsLeftBefore t list new b x → b ≢ new.block
    → IsApart t new b x → IsLeft t list b x
next_kept t list new b (Stands cost) h ne apart =
    let (code, fix, exist, e) = h.left in
    (code, subst (λ l. HasExact (literals_of l) b code) (sym h.ends) (exact_more h.before (new ∷ []) b code fix), exist, e)
next_kept t list new b (Free w) h ne apart = (
  subst (λ l. LeavesFree (literals_of l) b) (sym h.ends) (free_more h.before new b h.left.0 (λ e. ne (sym e))),
  subst (λ l. IsWitness t l b w) (sym h.ends) (witness_more t h.before new b w h.left.1 apart),
)
next_kept t list new b Never h ne apart = (
  subst (λ l. LeavesFree (literals_of l) b) (sym h.ends) (free_more h.before new b h.left.0 (λ e. ne (sym e))),
  subst (λ l. HasNoPlace t.yard l b) (sym h.ends) (none_more t.yard h.before new b h.left.1),
)

-- another block whose witness clashes with it: the slots before the witness stay full
pub next_full : (t : PlainTables) (list : List Standing) (new : Standing) (b : ℕ) (w : Witness) → IsLeftBefore t list new b (Free w) → AreFull t list b w.slot
next_full t list new b w h = subst (λ l. AreFull t l b w.slot) (sym h.ends) (full_more t h.before new b w.slot h.left.1.before)

-- what is so of each element and its number, with one element more
pub each_more : {A : Type 0} (P : ℕ → A → Type 0) (xs more : List A) (x : A) (n : ℕ) → length xs ≡ n
    → ((k : ℕ) (y : A) → slice_get xs k ≡ Some y → P k y) → P n x → more ≡ xs ++ x ∷ [] → (k : ℕ) (y : A) → slice_get more k ≡ Some y → P k y
each_more P xs more x n long h here pushed k y at =
    elim (get-append_cases xs (x ∷ []) k y (ap (λ zs. slice_get zs k) (sym pushed) ∙ at)) [
      | inl front ↦ h k y front
      | inr back ↦
          let (m, last, where_is) = back in
          let (first, same) = only_element x y m last in
          let e : n ≡ k = omega arith in
          subst (P k) same (subst (λ k. P k x) e here)
    ]

-- the same of the elements that come after so many others
pub each_after : {A : Type 0} (P : ℕ → A → Type 0) (xs more : List A) (x : A) (base n : ℕ) → length xs ≡ base + n
    → ((k : ℕ) (y : A) → k < n → slice_get xs (base + k) ≡ Some y → P k y) → P n x → more ≡ xs ++ x ∷ []
    → (k : ℕ) (y : A) → k < n + 1 → slice_get more (base + k) ≡ Some y → P k y
each_after P xs more x base n long h here pushed k y below at =
    elim (get-append_cases xs (x ∷ []) (base + k) y (ap (λ zs. slice_get zs (base + k)) (sym pushed) ∙ at)) [
      | inl front ↦ (let l = slice_get_within xs (base + k) y front in h k y (omega arith) front)
      | inr back ↦
          let (m, last, where_is) = back in
          let (first, same) = only_element x y m last in
          let e : n ≡ k = omega arith in
          subst (P k) same (subst (λ k. P k x) e here)
    ]

-- the last block of the list stands
pub last_standing : (t : PlainTables) (list before : List Standing) (new : Standing) → All (IsStanding t.yard) list → list ≡ before ++ new ∷ [] → IsStanding t.yard new
last_standing t list before new stand e = (all_push_back (IsStanding t.yard) before new (subst (All (IsStanding t.yard)) e stand)).1
