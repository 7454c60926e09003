-- The lesser of a bar and the key of a feasible plan is a bar.
use Rattle.std.proofs.Common.{◌≡◌, ℕ, List, min, inl, inr, sym, ◌∙◌, subst, arith}
use Rattle.std.proofs.lemmas.Bool.{cases_lt}
use Rattle.shape_exact.specs.Yards.{PlainYard}
use Rattle.plan_rule.specs.Plans.{IsFeasible}
use Rattle.plan_rule.specs.Paths.{key}
use Rattle.plan_rule.specs.Reports.{IsBar}
use Rattle.plan_rule.specs.Yards.{choices}

pub bar_of_two : (yard yard' : PlainYard) (bar k result : ℕ) (p : List ℕ) → yard ≡ yard' → IsBar (choices yard) bar → IsFeasible (choices yard') p → k ≡ key (choices yard') p → result ≡ min bar k
    → IsBar (choices yard) result
bar_of_two yard yard' bar k result p same is feasible e least = elim (cases_lt bar k) [
  | inl l ↦ let f : bar ≡ result = omega arith in subst (IsBar (choices yard)) f is
  | inr l ↦
      let f : k ≡ result = omega arith in
      inr (p, subst (λ yard. IsFeasible (choices yard) p) (sym same) feasible, subst (λ yard. key (choices yard) p ≡ result) (sym same) (sym e ∙ f))
]
