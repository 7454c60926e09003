-- The base of a side with one code of a block, from what the other blocks cost at least.
use Rattle.std.proofs.Common.{◌≡◌, ◌≢◌, ℕ, ◌+◌, ◌<◌, ◌≤◌, List, Some, None, refl, sym, ap, ◌∙◌, subst, inl, inr, arith, add-one}
use Rattle.std.proofs.lemmas.Bool.{cases_lt}
use Rattle.std.proofs.lemmas.Option.{same_Some}
use Rattle.plan_rule.specs.declared.literal.Literal.{Literal}
use Rattle.plan_rule.specs.Choices.{Choices, IsCode, blocks}
use Rattle.plan_rule.specs.Boxes.{exact, with_literal}
use Rattle.plan_rule.specs.Bounds.{IsLeastOf, IsSumOfLeast, IsBase, MayTake}
use Rattle.log_checker.proofs.BesideLaws.{exact_other, exact_same}

-- what another block may take is the same beside each code
may_beside : (c : Choices) (side : List Literal) (b code a x : ℕ) → a ≢ b → MayTake c side a x → MayTake c (with_literal side (exact b code)) a x
may_beside c side b code a x ne may = (may.0, λ d f. may.1 d (sym (exact_other side (exact b code) a ne) ∙ f))

pub may_without : (c : Choices) (side : List Literal) (b code a x : ℕ) → a ≢ b → MayTake c (with_literal side (exact b code)) a x → MayTake c side a x
may_without c side b code a x ne may = (may.0, λ d f. may.1 d (exact_other side (exact b code) a ne ∙ f))

least_beside : (c : Choices) (side : List Literal) (b code a m : ℕ) → a ≢ b → IsLeastOf (MayTake c side a) (c.cost a) (Some m)
    → IsLeastOf (MayTake c (with_literal side (exact b code)) a) (c.cost a) (Some m)
least_beside c side b code a m ne ((x, may, is), least) =
    ((x, may_beside c side b code a x ne may, is), λ y may'. least y (may_without c side b code a y ne may'))

-- the block itself costs what the code costs
least_here : (c : Choices) (side : List Literal) (b code : ℕ) → IsCode c b code
    → IsLeastOf (MayTake c (with_literal side (exact b code)) b) (c.cost b) (Some (c.cost b code))
least_here c side b code exist = (
  (code, (exist.1, λ d f. same_Some code d (sym (exact_same side b code) ∙ f)), refl),
  λ x may.
      let only : x ≡ code = may.1 code (exact_same side b code) in
      let same : c.cost b x ≡ c.cost b code = ap (c.cost b) only in
      omega arith,
)

-- one block more
sum_more : (May : ℕ → ℕ → Type 0) (cost : ℕ → ℕ → ℕ) (n s m k : ℕ) → IsSumOfLeast May cost n s → IsLeastOf (May n) (cost n) (Some m) → k ≡ s + m
    → IsSumOfLeast May cost (n + 1) k
sum_more May cost n s m k h least e = rw add-one (s, m, h, least, e)

-- the sum over the first n blocks, beside each code of the block, is s, and from the block on its code's cost besides
abbrev pub SumsBeside : Choices → List Literal → ℕ → ℕ → ℕ → Type 0
SumsBeside c side b n s =
    (code : ℕ) → IsCode c b code
    → (n ≤ b → IsSumOfLeast (MayTake c (with_literal side (exact b code))) c.cost n s)
    × (b < n → IsSumOfLeast (MayTake c (with_literal side (exact b code))) c.cost n (s + c.cost b code))

pub sums_pass : (c : Choices) (side : List Literal) (b n s : ℕ) → n ≡ b → SumsBeside c side b n s → SumsBeside c side b (n + 1) s
sums_pass c side b n s e h code exist = (
  λ l. absurd (omega arith),
  λ l. subst (λ n. SumsBeside c side b n s → IsSumOfLeast (MayTake c (with_literal side (exact b code))) c.cost (n + 1) (s + c.cost b code)) (sym e)
      (λ h. sum_more (MayTake c (with_literal side (exact b code))) c.cost b s (c.cost b code) (s + c.cost b code)
      ((h code exist).0 (omega arith)) (least_here c side b code exist) refl) h,
)

pub sums_more : (c : Choices) (side : List Literal) (b n s m : ℕ) → n ≢ b → SumsBeside c side b n s
    → IsLeastOf (MayTake c side n) (c.cost n) (Some m) → SumsBeside c side b (n + 1) (s + m)
sums_more c side b n s m ne h least code exist =
    let beside = least_beside c side b code n m ne least in (
      λ l. sum_more (MayTake c (with_literal side (exact b code))) c.cost n s m (s + m) ((h code exist).0 (omega arith)) beside refl,
      λ l. elim (cases_lt b n) [
        | inl before ↦
            sum_more (MayTake c (with_literal side (exact b code))) c.cost n (s + c.cost b code) m (s + m + c.cost b code)
            ((h code exist).1 before) beside (omega arith)
        | inr here ↦ absurd (ne (omega arith))
      ],
    )

-- past the last block the sum is the base
pub sums_all : (c : Choices) (side : List Literal) (b n s : ℕ) → b < blocks c → n ≡ blocks c → SumsBeside c side b n s
    → (code : ℕ) → IsCode c b code → IsBase c (with_literal side (exact b code)) (Some (s + c.cost b code))
sums_all c side b n s exist e h code is =
    subst (λ n. IsSumOfLeast (MayTake c (with_literal side (exact b code))) c.cost n (s + c.cost b code)) e ((h code is).1 (omega arith))

-- where another block may take no code, the base is Never
pub never_beside : (c : Choices) (side : List Literal) (b a : ℕ) → a < blocks c → a ≢ b → IsLeastOf (MayTake c side a) (c.cost a) None
    → (code : ℕ) → IsCode c b code → IsBase c (with_literal side (exact b code)) None
never_beside c side b a exist ne none code is = (a, exist, λ x may. none x (may_without c side b code a x ne may))
