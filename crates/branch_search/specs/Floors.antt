-- Bounds that beat a box and each box with more literals.
use Rattle.std.specs.Prelude.{ℕ, ◌≤◌, List, Option, Some, None, All, Contains}
use Rattle.plan_rule.specs.declared.literal.Literal.{Literal}
use Rattle.plan_rule.specs.Choices.{Choices}
use Rattle.plan_rule.specs.Boxes.{IsBox}
use Rattle.branch_kernel.specs.Rivals.{Beats}

-- the first bound is not below the second; Never is above every number
abbrev pub IsNoLess : Option ℕ → Option ℕ → Type 0
IsNoLess None r = Unit {0}
IsNoLess (Some k) None = ⊥
IsNoLess (Some k) (Some n) = n ≤ k

-- each bound from this one on beats each box that has the literals of the part
abbrev pub BeatsFrom : Choices → ℕ → Option (List ℕ) → List Literal → Option ℕ → Type 0
BeatsFrom c bar best part r =
    (box : List Literal) (k : Option ℕ) → IsBox c box → All (Contains box) part → IsNoLess k r → Beats c bar best box k
