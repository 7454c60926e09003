-- Sums of leasts block by block, and when a fit is above a limit.
use Rattle.std.proofs.Common.{◌≡◌, ℕ, zero, suc, ◌+◌, ◌-◌, ◌*◌, ◌<◌, ◌≤◌, List, Option, Some, None, refl, subst, inl, inr, arith}
use Rattle.std.proofs.lemmas.Bool.{cases_lt}
use Rattle.std.proofs.lemmas.Option.{same_Some}
use Rattle.std.specs.Prelude.{MatchOption}
use Rattle.shape_exact.specs.Yards.{PlainYard, IsYard}
use Rattle.plan_rule.specs.declared.literal.Literal.{Literal}
use Rattle.plan_rule.specs.Choices.{Choices, blocks}
use Rattle.plan_rule.specs.Bounds.{IsLeastOf, IsSumOfLeast, IsAtMost, IsBase, IsFit, MayFit, MayTake, Refutes}
use Rattle.plan_rule.specs.Yards.{choices}
use Rattle.plan_rule.proofs.CountLaws.{blocks-length, cost_is}
use Rattle.plan_rule.proofs.LimitLaws.{cost-le}
use Rattle.plan_rule.proofs.UniqueLaws.{bound_unique}
use Rattle.plan_rule.proofs.RestLaws.{least_at, sum_more}
use Rattle.log_checker.specs.declared.claim.Claim.{Claim}
use Rattle.log_checker.specs.Claims.{IsClaim, plan_of}
use Rattle.log_checker.specs.Leasts.{IsFitUpTo}

same_sum : (May : ℕ → ℕ → Type 0) (cost : ℕ → ℕ → ℕ) (n i j k : ℕ) → i ≡ n → IsSumOfLeast May cost i j → IsSumOfLeast May cost n k → j ≡ k
same_sum May cost n i j k e h g = same_Some j k (bound_unique May cost n (Some j) (Some k) (subst (λ i. IsSumOfLeast May cost i j) e h) g)

-- the sum over the first blocks is at most that over all
pub part_of : (May : ℕ → ℕ → Type 0) (cost : ℕ → ℕ → ℕ) (n i k t : ℕ) → i ≤ n → IsSumOfLeast May cost n k → IsSumOfLeast May cost i t → t ≤ k
part_of May cost zero i k t l h g = let e = same_sum May cost zero i t k (omega arith) g h in omega arith
part_of May cost (suc n) i k t l h g = elim (cases_lt i (suc n)) [
  | inl less ↦ let (s, m, hs, hm, e) = h in let a = part_of May cost n i s t (omega arith) hs g in omega arith
  | inr same ↦ let e = same_sum May cost (suc n) i t k (omega arith) g h in omega arith
]

-- where fewer codes may be taken, each block costs no less
pub ahead : (A B : ℕ → ℕ → Type 0) (cost : ℕ → ℕ → ℕ) (n i k j s t : ℕ) → ((b x : ℕ) → A b x → B b x) → i ≤ n
    → IsSumOfLeast A cost n k → IsSumOfLeast B cost n j → IsSumOfLeast A cost i s → IsSumOfLeast B cost i t → s + j ≤ k + t
ahead A B cost zero i k j s t sub l hk hj hs ht =
    let e = same_sum A cost zero i s k (omega arith) hs hk in let f = same_sum B cost zero i t j (omega arith) ht hj in omega arith
ahead A B cost (suc n) i k j s t sub l hk hj hs ht = elim (cases_lt i (suc n)) [
  | inl less ↦
      let (k', m, hk', lm, ek) = hk in let (j', o, hj', lo, ej) = hj in
      let a = ahead A B cost n i k' j' s t sub (omega arith) hk' hj' hs ht in
      let (x, may, is) = lm.0 in let b = lo.1 x (sub n x may) in omega arith
  | inr same ↦
      let e = same_sum A cost (suc n) i s k (omega arith) hs hk in let f = same_sum B cost (suc n) i t j (omega arith) ht hj in omega arith
]

-- where no cost is above a number
pub sum_small : (May : ℕ → ℕ → Type 0) (cost : ℕ → ℕ → ℕ) (n k most : ℕ) → ((b x : ℕ) → b < n → May b x → cost b x ≤ most)
    → IsSumOfLeast May cost n k → k ≤ n * most
sum_small May cost zero k most low h = omega arith
sum_small May cost (suc n) k most low (s, m, hs, hm, e) =
    let a = sum_small May cost n s most (λ b x l may. low b x (omega arith) may) hs in
    let (x, may, is) = hm.0 in let b = low n x (omega arith) may in omega arith

-- no fit of a yard is large
pub fit_small : (yard : PlainYard) (side : List Literal) (n : ℕ) → IsYard yard → IsFit (choices yard) side (Some n) → n ≤ 32 * 399000
fit_small yard side n is h =
    let long = blocks-length yard in let few = is.few_blocks in
    let a = sum_small (MayFit (choices yard) side) (choices yard).cost (blocks (choices yard)) n 399000
    (λ b x l may. let e = cost_is yard b x in let le = cost-le yard b x is l may.0.0 in omega arith) h in
    omega arith

-- what the blocks from a block on cost at least, beside a side
pub record IsRest (c : Choices) (side : List Literal) (i rest : ℕ) : Type 0 where
  pub all : ℕ
  pub front : ℕ
  pub all_is : IsSumOfLeast (MayTake c side) c.cost (blocks c) all
  pub front_is : IsSumOfLeast (MayTake c side) c.cost i front
  pub parts : rest + front ≡ all

pub rest_start : (c : Choices) (side : List Literal) (k : ℕ) → IsBase c side (Some k) → IsRest c side 0 k
rest_start c side k h = record { all = k; front = 0; all_is = h; front_is = refl; parts = omega arith }

pub rest_has : (c : Choices) (side : List Literal) (i rest m : ℕ) → i < blocks c → IsRest c side i rest → IsLeastOf (MayTake c side i) (c.cost i) (Some m) → m ≤ rest
rest_has c side i rest m l r h =
    let a = part_of (MayTake c side) c.cost (blocks c) (i + 1) r.all (r.front + m) (omega arith) r.all_is (sum_more (MayTake c side) c.cost i r.front m r.front_is h) in
    let p = r.parts in
    omega arith

pub rest_next : (c : Choices) (side : List Literal) (i rest m less : ℕ) → i < blocks c → IsRest c side i rest → IsLeastOf (MayTake c side i) (c.cost i) (Some m)
    → less ≡ rest - m → IsRest c side (i + 1) less
rest_next c side i rest m less l r h e =
    let a = rest_has c side i rest m l r h in let p = r.parts in
    record { all = r.all; front = r.front + m; all_is = r.all_is; front_is = sum_more (MayTake c side) c.cost i r.front m r.front_is h; parts = omega arith }

-- no fit is below the costs found so far with the rest
pub fit_above_rest : (c : Choices) (side : List Literal) (i sum rest n : ℕ) → i ≤ blocks c → IsSumOfLeast (MayFit c side) c.cost i sum → IsRest c side i rest
    → IsFit c side (Some n) → sum + rest ≤ n
fit_above_rest c side i sum rest n l h r f =
    let a = ahead (MayFit c side) (MayTake c side) c.cost (blocks c) i n r.all sum r.front (λ b x may. may.0) l f r.all_is h r.front_is in
    let p = r.parts in
    omega arith

-- a fit that the costs found so far with the rest show to be above the limit
pub above_by_rest : (c : Choices) (side : List Literal) (i sum rest limit : ℕ) (k : Option ℕ) → i ≤ blocks c → IsSumOfLeast (MayFit c side) c.cost i sum
    → IsRest c side i rest → limit < sum + rest → IsFit c side k → IsAtMost k limit → ⊥
above_by_rest c side i sum rest limit None l h r above f = λ m. m
above_by_rest c side i sum rest limit (Some n) l h r above f = λ m. let a = fit_above_rest c side i sum rest n l h r f in absurd (omega arith)

-- a fit that the next block's codes show to be above the limit
pub above_by_next : (c : Choices) (side : List Literal) (i sum rest left limit : ℕ) (k : Option ℕ) → i < blocks c → IsSumOfLeast (MayFit c side) c.cost i sum
    → IsRest c side (i + 1) rest → left + (sum + rest) ≡ limit → ((x : ℕ) → MayFit c side i x → left < c.cost i x) → IsFit c side k → IsAtMost k limit → ⊥
above_by_next c side i sum rest left limit None l h r e high f = λ m. m
above_by_next c side i sum rest left limit (Some n) l h r e high f = λ m.
    let (v, is) = least_at (MayFit c side) c.cost (blocks c) i n l f in
    let a = fit_above_rest c side (i + 1) (sum + v) rest n (omega arith) (sum_more (MayFit c side) c.cost i sum v h is) r f in
    let (x, may, cost) = is.0 in let b = high x may in
    absurd (omega arith)

-- a block that may have no code has none that fits
pub never_fits : (c : Choices) (side : List Literal) (limit b : ℕ) → b < blocks c → ((x : ℕ) → MayTake c side b x → ⊥) → IsFitUpTo c side limit None
never_fits c side limit b l none = (None, (b, l, λ x may. none x may.0), λ m. m)

-- the limit for a claim
abbrev pub IsGreatest : Option Claim → ℕ → Type 0
IsGreatest claim limit = MatchOption claim (limit ≡ 4294967295) (λ c. limit ≡ c.total)

-- a fit above the limit refutes the side
pub refutes_above : (yard : PlainYard) (claim : Option Claim) (side : List Literal) (limit : ℕ) (k : Option ℕ) → IsYard yard → IsClaim (choices yard) claim
    → IsGreatest claim limit → IsFit (choices yard) side k → (IsAtMost k limit → ⊥) → Refutes (choices yard) (plan_of claim) side k
refutes_above yard claim side limit None is cl g f above = tt
refutes_above yard None side limit (Some n) is cl g f above =
    let a = fit_small yard side n is f in above (omega arith)
refutes_above yard (Some claim) side limit (Some n) is cl g f above =
    let e = cl.1 in
    inl (elim (cases_lt limit n) [ inl l ↦ omega arith | inr l ↦ absurd (above l) ])
