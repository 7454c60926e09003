-- Which answers a record must be a step against, and which plans a bar and a best settle.
use Rattle.std.specs.Prelude.{◌≡◌, ℕ, ◌-◌, ◌^◌, ◌<◌, ◌≤◌, List, Option, Some, None, ◌⊎◌}
use Rattle.plan_rule.specs.declared.literal.Literal.{Literal}
use Rattle.plan_rule.specs.Choices.{Choices}
use Rattle.plan_rule.specs.Plans.{IsPlan, IsFeasible, IsBefore, IsNotBefore, total}
use Rattle.plan_rule.specs.Boxes.{Holds}
use Rattle.plan_rule.specs.Bounds.{Refutes, IsAtMost}
use Rattle.plan_rule.specs.Paths.{key}
use Rattle.refutation_log.specs.declared.record.Record.{Record}
use Rattle.refutation_log.specs.Steps.{IsStepAt}

-- the best is none, or it is not before the plan
abbrev pub IsNotAfter : Choices → Option (List ℕ) → List ℕ → Type 0
IsNotAfter c None p = Unit {0}
IsNotAfter c (Some m) p = IsBefore c m p → ⊥

-- an answer within the bar that the best is not before: a record that is to serve must be a step against each
abbrev pub IsRival : Choices → ℕ → Option (List ℕ) → Option (List ℕ) → Type 0
IsRival c bar best None = bar ≡ 2 ^ 64 - 1
IsRival c bar best (Some p) = IsPlan c p × (key c p ≤ bar) × IsNotAfter c best p

-- the plan's key is above the bar, or the plan is not before the best
abbrev pub IsSettled : Choices → ℕ → Option (List ℕ) → List ℕ → Type 0
IsSettled c bar best q = (bar < key c q) ⊎ IsNotBefore c q best

-- each feasible plan of the box is settled
abbrev pub Settles : Choices → ℕ → Option (List ℕ) → List Literal → Type 0
Settles c bar best box = (q : List ℕ) → IsFeasible c q → Holds box q → IsSettled c bar best q

-- the record with this number is a step against every rival
abbrev pub IsGood : Choices → ℕ → Option (List ℕ) → List Record → ℕ → Type 0
IsGood c bar best log i = (t : Option (List ℕ)) → IsRival c bar best t → IsStepAt c t log i

-- the new best is the old one, or before it
abbrev pub IsNoWorse : Choices → Option (List ℕ) → Option (List ℕ) → Type 0
IsNoWorse c None new = Unit {0}
IsNoWorse c (Some m) None = ⊥
IsNoWorse c (Some m) (Some n) = (n ≡ m) ⊎ IsBefore c n m

-- the bar has not risen, and the best is no worse
pub record IsLater (c : Choices) (bar : ℕ) (best : Option (List ℕ)) (bar' : ℕ) (best' : Option (List ℕ)) : Type 0 where
  pub falls : bar' ≤ bar
  pub no_worse : IsNoWorse c best best'

-- a bound that refutes a box against every rival, and settles the plans whose total it does not exceed
pub record Beats (c : Choices) (bar : ℕ) (best : Option (List ℕ)) (box : List Literal) (r : Option ℕ) : Type 0 where
  pub refutes : (t : Option (List ℕ)) → IsRival c bar best t → Refutes c t box r
  pub settles : (q : List ℕ) → IsFeasible c q → Holds box q → IsAtMost r (total c q) → IsSettled c bar best q
