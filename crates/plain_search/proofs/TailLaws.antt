-- The least costs of the last blocks, added up block by block.
use Rattle.std.proofs.Common.{◌≡◌, ℕ, suc, ◌+◌, ◌-◌, ◌*◌, ◌<◌, ◌≤◌, List, [], ◌∷◌, ◌++◌, length, sym, ap, ◌∙◌, subst, arith, length-append, inl, inr}
use Rattle.std.specs.Prelude.{slice_index}
use Rattle.std.proofs.lemmas.Bool.{cases_lt}
use Rattle.std.proofs.lemmas.List.{get_or_append_left, get_or_push}
use Rattle.shape_exact.specs.Yards.{PlainYard}
use Rattle.code_table.specs.Placements.{own_cost, placements}
use Rattle.code_table.specs.Costs.{IsAtMostEachCost}
use Rattle.plan_rule.specs.Choices.{Choices, blocks, count}
use Rattle.plan_rule.specs.Plans.{code_of}
use Rattle.plan_rule.specs.Yards.{choices}
use Rattle.plan_rule.proofs.CountLaws.{count-length, block_exists, code_exists}
use Rattle.plain_search.specs.Fronts.{IsFloor, AreTails, IsBare}

-- the first numbers of the tails
pub record AreFirst (c : Choices) (list : List ℕ) (k : ℕ) : Type 0 where
  pub long : length list ≡ k + 1
  pub some : k ≤ blocks c
  pub small : (i : ℕ) → i ≤ k → slice_index list i ≤ 400000 * i
  pub floors : (i : ℕ) → i ≤ k → IsFloor c (blocks c - i) (slice_index list i)

-- a cost that no code of the block is below
abbrev pub IsLow : Choices → ℕ → ℕ → Type 0
IsLow c b least = (code : ℕ) → code < count c b → least ≤ c.cost b code

-- one block more
floor_more : (c : Choices) (b floor least : ℕ) → b < blocks c → IsFloor c (suc b) floor → IsLow c b least → IsFloor c b (floor + least)
floor_more c b floor least l f low plan p =
    let m = f plan p in
    let k = low (code_of plan b) (p.in_range b l) in
    omega arith

pub first_more : (c : Choices) (list next : List ℕ) (k sum least : ℕ) → AreFirst c list k → sum ≡ slice_index list k + least → k < blocks c
    → IsLow c (blocks c - 1 - k) least → least ≤ 400000 → next ≡ list ++ sum ∷ [] → AreFirst c next (k + 1)
first_more c list next k sum least h e l low limit s =
    let old : (i : ℕ) → i ≤ k → slice_index next i ≡ slice_index list i = λ i m.
    ap (λ xs. slice_index xs i) s ∙ get_or_append_left list (sum ∷ []) 0 i (let n = h.long in omega arith) in
    let new : slice_index next (k + 1) ≡ sum = ap (λ xs. slice_index xs (k + 1)) s ∙ get_or_push list sum 0 (k + 1) h.long in
    let n = length-append list (sum ∷ []) in
    let long : length next ≡ k + 1 + 1 = ap length s ∙ (let m = h.long in let r : length (list ++ sum ∷ []) ≡ k + 1 + 1 = omega arith in r) in
    let b : suc (blocks c - 1 - k) ≡ blocks c - k = omega arith in
    let floor : IsFloor c (suc (blocks c - 1 - k)) (slice_index list k) = subst (λ b. IsFloor c b (slice_index list k)) (sym b) (h.floors k (omega arith)) in
    let here : IsFloor c (blocks c - 1 - k) sum = subst (IsFloor c (blocks c - 1 - k)) (sym e) (floor_more c (blocks c - 1 - k) (slice_index list k) least (omega arith) floor low) in
    let low_sum = h.small k (omega arith) in
    record {
      long = long;
      some = omega arith;
      small = λ i m. elim (cases_lt k i) [
        | inl last ↦
            let j : i ≡ k + 1 = omega arith in
            subst (λ i. slice_index next i ≤ 400000 * i) (sym j) (subst (λ x. x ≤ 400000 * (k + 1)) (sym new) (omega arith))
        | inr before ↦ subst (λ x. x ≤ 400000 * i) (sym (old i before)) (h.small i before)
      ];
      floors = λ i m. elim (cases_lt k i) [
        | inl last ↦
            let j : i ≡ k + 1 = omega arith in
            let d : blocks c - 1 - k ≡ blocks c - (k + 1) = omega arith in
            subst (λ i. IsFloor c (blocks c - i) (slice_index next i)) (sym j)
            (subst (λ x. IsFloor c (blocks c - (k + 1)) x) (sym new) (subst (λ b. IsFloor c b sum) d here))
        | inr before ↦ subst (IsFloor c (blocks c - i)) (sym (old i before)) (h.floors i before)
      ];
    }

-- all blocks
pub first_all : (c : Choices) (list : List ℕ) (k : ℕ) → AreFirst c list k → k ≡ blocks c → AreTails c list
first_all c list k h e = record {
  long = let n = h.long in omega arith;
  small = λ i l. h.small i (omega arith);
  floors = λ b l.
      let d : blocks c - (blocks c - b) ≡ b = omega arith in
      subst (λ n. IsFloor c n (slice_index list (blocks c - b))) d (h.floors (blocks c - b) (omega arith));
}

-- the number that was put last
pub first_sum : (c : Choices) (list next : List ℕ) (k sum : ℕ) → AreFirst c list k → next ≡ list ++ sum ∷ [] → sum ≡ slice_index next (k + 1)
first_sum c list next k sum h s = sym (ap (λ xs. slice_index xs (k + 1)) s ∙ get_or_push list sum 0 (k + 1) h.long)

-- a number that no code's cost is below
pub least_low : (yard : PlainYard) (b n least : ℕ) → b ≡ n → n < blocks (choices yard) → IsAtMostEachCost yard b least → IsLow (choices yard) n least
unfolding choices
least_low yard b n least e l h code m =
    subst (λ k. least ≤ own_cost yard k code) e (h code (subst (λ k. code < length (placements yard k)) (sym e) (code_exists yard n code (l, m))))

pub block_bare : (yard : PlainYard) (b : ℕ) → b < blocks (choices yard) → length (placements yard b) ≡ 0 → IsBare (choices yard)
block_bare yard b l e = (b, l, count-length yard b (block_exists yard b l) ∙ e)
