-- The steps of a walk, with the floors read from the tails.
use Rattle.std.proofs.Common.{◌≡◌, ℕ, ◌+◌, ◌-◌, ◌*◌, ◌<◌, ◌≤◌, true, false, List, [], ◌∷◌, ◌++◌, length, Option, Some, None, refl, sym, ap, ◌∙◌, subst, arith, length-append, inl, inr, take}
use Rattle.std.specs.Prelude.{IsTrue, slice_index, ◌↔◌}
use Rattle.std.proofs.Math.Seq.{take-append_seam}
use Rattle.std.proofs.lemmas.Bool.{false≢true, ltb-true, lt-ltb, cases_order}
use Rattle.shape_exact.specs.Yards.{PlainYard}
use Rattle.code_table.specs.Placements.{own_cost, placements}
use Rattle.plan_rule.proofs.CountLaws.{count-length, block_exists}
use Rattle.plan_rule.specs.Yards.{choices}
use Rattle.plan_rule.specs.Choices.{Choices, MeetsSome, blocks, count}
use Rattle.plan_rule.specs.Plans.{code_of, IsFeasible}
use Rattle.plan_rule.specs.Pieces.{IsFirstMet}
use Rattle.plain_search.specs.declared.hand.Hand.{Hand}
use Rattle.plain_search.specs.Fronts.{cost_below, IsFront, IsClear, IsFloor, AreTails}
use Rattle.plain_search.specs.Hands.{can_beat, Searched}
use Rattle.plain_search.proofs.FrontLaws.{cost_more}
use Rattle.plain_search.proofs.WalkLaws.{Walked, walk_skips, walk_takes, walk_stops, idle_skips}

-- a front that is no whole plan, what it costs, and how many blocks are left
pub record IsNode (c : Choices) (tails front : List ℕ) (cost left : ℕ) : Type 0 where
  pub floors : AreTails c tails
  pub inside : length front < blocks c
  pub spent : cost ≡ cost_below c (length front) front
  pub rest : left ≡ blocks c - length front

floor_at : (c : Choices) (tails : List ℕ) (b left : ℕ) → AreTails c tails → b ≤ blocks c → left ≡ blocks c - b → IsFloor c b (slice_index tails left)
floor_at c tails b left t l e = subst (λ k. IsFloor c b (slice_index tails k)) (sym e) (t.floors b l)

length_more : (front : List ℕ) (code : ℕ) → length (front ++ code ∷ []) ≡ length front + 1
length_more front code = let n = length-append front (code ∷ []) in omega arith

-- nothing that is left can be better
pub node_stops : (c : Choices) (tails front : List ℕ) (cost left : ℕ) (old new : Option Hand) (code : ℕ) → IsNode c tails front cost left
    → Walked c front old new code → can_beat new (cost + slice_index tails left) ≡ false → Searched c front old new
node_stops c tails front cost left old new code n w e =
    walk_stops c front old new code cost (slice_index tails left) w n.spent
    (let l = n.inside in floor_at c tails (length front) left n.floors (omega arith) n.rest) e

-- a code that leads to no better plan
pub node_skips : (c : Choices) (tails front slice : List ℕ) (cost left own : ℕ) (old new : Option Hand) (code : ℕ) → IsNode c tails front cost left
    → Walked c front old new code → slice ≡ front → own ≡ c.cost (length front) code
    → (IsTrue false ↔ (IsTrue (can_beat new (cost + own + slice_index tails (left - 1))) × IsClear c slice code))
    → Walked c front old new (code + 1)
node_skips c tails front slice cost left own old new code n w s e told =
    let m = length_more front code in
    let l = n.inside in
    let k = n.rest in
    let sum : cost + own ≡ cost_below c (length front) front + c.cost (length front) code = let p = n.spent in omega arith in
    walk_skips c front old new code w
    (idle_skips c front new code (cost + own) (slice_index tails (left - 1)) (can_beat new (cost + own + slice_index tails (left - 1))) l refl
    (λ better clear. false≢true (told.1 (better, subst (λ f. IsClear c f code) (sym s) clear)))
    w.kept w.earlier (sum ∙ sym (cost_more c front code))
    (floor_at c tails (length (front ++ code ∷ [])) (left - 1) n.floors (omega arith) (omega arith)))

-- what a front with a code more costs
pub node_cost : (c : Choices) (tails front next : List ℕ) (cost left own code : ℕ) → IsNode c tails front cost left
    → next ≡ front ++ code ∷ [] → own ≡ c.cost (length front) code → cost + own ≡ cost_below c (length next) next
node_cost c tails front next cost left own code n s e =
    let sum : cost + own ≡ cost_below c (length front) front + c.cost (length front) code = let p = n.spent in omega arith in
    subst (λ f. cost + own ≡ cost_below c (length f) f) (sym s) (sum ∙ sym (cost_more c front code))

pub node_small : (front next : List ℕ) (cost own code : ℕ) → cost ≤ 400000 * length front → own ≤ 400000 → next ≡ front ++ code ∷ []
    → cost + own ≤ 400000 * length next
node_small front next cost own code small limit s =
    let m = length_more front code in
    let n : length next ≡ length front + 1 = ap length s ∙ m in
    omega arith

-- what beats the plan in hand with a floor besides
pub beats_below : (hand : Option Hand) (sum floor : ℕ) → can_beat hand (sum + floor) ≡ true → can_beat hand sum ≡ true
beats_below None sum floor e = refl
beats_below (Some hand) sum floor e = let l = ltb-true _ _ e in lt-ltb _ _ (omega arith)

-- a code whose plans have been searched
pub node_takes : (c : Choices) (front next : List ℕ) (old hand new : Option Hand) (code : ℕ) → Walked c front old hand code
    → next ≡ front ++ code ∷ [] → Searched c next hand new → Walked c front old new (code + 1)
node_takes c front next old hand new code w s found = walk_takes c front old hand new code w (subst (λ f. Searched c f hand new) s found)

-- the codes of a front that is a whole plan
pub whole_front : (c : Choices) (front : List ℕ) → ((a x b y : ℕ) → c.Clash a x b y → c.Clash b y a x) → IsFront c front → length front ≡ blocks c → IsFeasible c front
whole_front c front mutual_clash f e = record {
  is_plan = record { one_each = e; in_range = λ b l. f.in_range b (omega arith) };
  clear = λ a b l m ne clash. elim (cases_order a b) [
    | inl same ↦ ne same
    | inr differ ↦ elim differ [
      | inl k ↦ f.clear a b k (omega arith) clash
      | inr k ↦ f.clear b a k (omega arith) (mutual_clash a (code_of front a) b (code_of front b) clash)
    ]
  ];
  unmet = λ b l. f.unmet b (omega arith);
}

-- what a code costs, at the number of the block
pub own_is : (yard : PlainYard) (b code n own : ℕ) → own ≡ own_cost yard b code → b ≡ n → own ≡ (choices yard).cost n code
unfolding choices
own_is yard b code n own e f = e ∙ ap (λ k. own_cost yard k code) f

-- how many codes the block has
count_is : (yard : PlainYard) (b n : ℕ) → b ≡ n → n < blocks (choices yard) → count (choices yard) n ≡ length (placements yard b)
count_is yard b n e l = subst (λ k. count (choices yard) n ≡ length (placements yard k)) (sym e) (count-length yard n (block_exists yard n l))

pub count_at : (yard : PlainYard) (b n code : ℕ) → b ≡ n → n < blocks (choices yard) → code < length (placements yard b) → code < count (choices yard) n
count_at yard b n code e l m = let k = count_is yard b n e l in omega arith

pub count_end : (yard : PlainYard) (b n code : ℕ) → b ≡ n → n < blocks (choices yard) → code ≡ length (placements yard b) → code ≡ count (choices yard) n
count_end yard b n code e l m = m ∙ sym (count_is yard b n e l)

-- a front with a code more, without its last code
pub popped : (next front : List ℕ) (code n : ℕ) → next ≡ front ++ code ∷ [] → n ≡ length next → take (n - 1) next ≡ front
popped next front code n s e =
    let m = length_more front code in
    let k : n - 1 ≡ length front = let l : length next ≡ length front + 1 = ap length s ∙ m in omega arith in
    ap (λ i. take i next) k ∙ ap (λ xs. take (length front) xs) s ∙ take-append_seam front (code ∷ [])

-- a code of the next block that clashes with none of the front, and meets no piece
pub clear_now : (yard : PlainYard) (front : List ℕ) (b code : ℕ) → b ≡ length front
    → ((a : ℕ) → a < b → (choices yard).Clash a (code_of front a) b code → ⊥) → (MeetsSome (choices yard) b code → ⊥) → IsClear (choices yard) front code
clear_now yard front b code e apart unmet = record {
  apart = λ a l clash. apart a (omega arith) (subst (λ b. (choices yard).Clash a (code_of front a) b code) (sym e) clash);
  unmet = λ meets. unmet (subst (λ b. MeetsSome (choices yard) b code) (sym e) meets);
}

first_meets : (yard : PlainYard) (b code i : ℕ) → IsFirstMet (choices yard) b code i → MeetsSome (choices yard) b code
first_meets yard b code i m = (i, m.meets)

-- one that meets a piece
pub not_clear : (yard : PlainYard) (front : List ℕ) (b code i : ℕ) → b ≡ length front → IsFirstMet (choices yard) b code i → IsClear (choices yard) front code → ⊥
not_clear yard front b code i e m h = h.unmet (subst (λ b. MeetsSome (choices yard) b code) e (first_meets yard b code i m))
