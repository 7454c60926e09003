-- What a block costs at least in a box.
use Rattle.std.proofs.Common.{◌≡◌, ℕ, zero, suc, ◌<◌, Some, subst, inl, inr, arith, length, Option, None, ◌∙◌, ◌+◌, refl, add-one, List, sym, ap, ◌≤◌, IfSome, IfNone}
use Rattle.std.proofs.lemmas.Bool.{cases_lt}
use Rattle.std.proofs.lemmas.Option.{same_Some, none-some}
use Rattle.shape_exact.specs.Yards.{PlainYard}
use Rattle.code_table.specs.Placements.{placements, own_cost}
use Rattle.code_table.specs.Costs.{IsAtMostEachCost, IsCostOfSome}
use Rattle.plan_rule.specs.Bounds.{IsLeastOf, IsSumOfLeast, MayTake}
use Rattle.plan_rule.specs.Choices.{blocks, count, Choices, IsCode}
use Rattle.plan_rule.specs.Yards.{choices}
use Rattle.plan_rule.proofs.CountLaws.{block_exists, count-length, cost_is}
use Rattle.plan_rule.specs.declared.literal.Literal.{Literal}
use Rattle.plan_rule.specs.Boxes.{IsBox, IsLiteral, HasExact, exact, exact_code}
use Rattle.plan_rule.proofs.BoundLaws.{exact-all}

-- each block has a least
pub least_at : (May : ℕ → ℕ → Type 0) (cost : ℕ → ℕ → ℕ) (n i k : ℕ) → i < n → IsSumOfLeast May cost n k → (m : ℕ) × IsLeastOf (May i) (cost i) (Some m)
least_at May cost zero i k l h = absurd (omega arith)
least_at May cost (suc n) i k l (s, m, hs, hm, e) = elim (cases_lt i n) [
  | inl less ↦ least_at May cost n i s less hs
  | inr same ↦ (m, subst (λ i. IsLeastOf (May i) (cost i) (Some m)) (let e : n ≡ i = omega arith in e) hm)
]

-- the least cost of a block's codes
pub least_of_codes : (yard : PlainYard) (b : ℕ) (o : Option ℕ) → b < blocks (choices yard) → IfNone o (length (placements yard b) ≡ 0)
    → IfSome o (IsAtMostEachCost yard b) → IfSome o (IsCostOfSome yard b)
    → IsLeastOf (λ code. code < count (choices yard) b) ((choices yard).cost b) o
least_of_codes yard b None l none low some = λ x m. let n = count-length yard b (block_exists yard b l) in absurd (omega arith)
least_of_codes yard b (Some m) l none low some =
    let n = count-length yard b (block_exists yard b l) in
    let (x, within, cost) = some in (
      (x, omega arith, cost_is yard b x ∙ cost),
      λ y k. let a = low y (omega arith) in let e = cost_is yard b y in omega arith,
    )

-- one block more
pub sum_more : (May : ℕ → ℕ → Type 0) (cost : ℕ → ℕ → ℕ) (i s m : ℕ) → IsSumOfLeast May cost i s → IsLeastOf (May i) (cost i) (Some m)
    → IsSumOfLeast May cost (i + 1) (s + m)
sum_more May cost i s m h k = rw add-one (s, m, h, k, refl)

-- the code of an exact block exists
pub exact_exists : (c : Choices) (box : List Literal) (b code : ℕ) → IsBox c box → HasExact box b code → IsCode c b code
exact_exists c box b code is f =
    let l : IsLiteral c (exact b code) = exact-all (IsLiteral c) box b code is.each f in
    let some = l.codes in (l.block, omega arith)

-- an exact block costs what its code costs
pub least_exact : (yard : PlainYard) (box : List Literal) (b code cost : ℕ) → IsBox (choices yard) box → HasExact box b code → cost ≡ own_cost yard b code
    → IsLeastOf (MayTake (choices yard) box b) ((choices yard).cost b) (Some cost)
least_exact yard box b code cost is f e =
    let exist = exact_exists (choices yard) box b code is f in
    let same : (choices yard).cost b code ≡ cost = cost_is yard b code ∙ sym e in (
      (code, (exist.1, λ d g. same_Some code d (sym f ∙ g)), same),
      λ x may.
          let only : x ≡ code = may.1 code f in
          let cost_only : (choices yard).cost b x ≡ (choices yard).cost b code = ap (λ x. (choices yard).cost b x) only in
          omega arith,
    )

-- a block that is not exact costs the least of its codes
pub least_free : (yard : PlainYard) (box : List Literal) (b : ℕ) (r : Option ℕ) → b < blocks (choices yard) → exact_code box b ≡ None
    → IfNone r (length (placements yard b) ≡ 0) → IfSome r (IsAtMostEachCost yard b) → IfSome r (IsCostOfSome yard b)
    → IsLeastOf (MayTake (choices yard) box b) ((choices yard).cost b) r
least_free yard box b None exist free none least some =
    λ x may. let n = count-length yard b (block_exists yard b exist) in let l = may.0 in absurd (omega arith)
least_free yard box b (Some cost) exist free none least (code, below, is) =
    let n = count-length yard b (block_exists yard b exist) in (
      (code, (omega arith, λ d g. absurd (none-some d (sym free ∙ g))), cost_is yard b code ∙ is),
      λ x may.
          let le : cost ≤ own_cost yard b x = least x (let l = may.0 in omega arith) in
          let same = cost_is yard b x in
          omega arith,
    )
