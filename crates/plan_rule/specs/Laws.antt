-- Laws of plans, their path numbers and the bounds of boxes.
use Rattle.std.specs.Prelude.{ℕ, ◌^◌, ◌<◌, ◌≤◌, List, Option}
use Rattle.plan_rule.specs.declared.literal.Literal.{Literal}
use Rattle.plan_rule.specs.Choices.{Choices}
use Rattle.plan_rule.specs.Plans.{IsPlan, IsFeasible, IsLexLess, IsBefore, total}
use Rattle.plan_rule.specs.Paths.{path, key}
use Rattle.plan_rule.specs.Boxes.{Holds}
use Rattle.plan_rule.specs.Bounds.{IsAtMost}

-- path numbers never fall along the lexicographic order
abbrev pub PathsFollow : Choices → Type 0
PathsFollow c = (p q : List ℕ) → IsPlan c p → IsPlan c q → IsLexLess p q → path c p ≤ path c q

-- keys never fall along the order of plans
abbrev pub KeysFollow : Choices → Type 0
KeysFollow c = (p q : List ℕ) → IsPlan c p → IsPlan c q → IsBefore c p q → key c p ≤ key c q

-- every total is below 2 ^ 31, and every key fits a u64 and is below the greatest one
pub record AreSmall (c : Choices) : Type 0 where
  pub total : (p : List ℕ) → IsPlan c p → total c p < 2 ^ 31
  pub key : (p : List ℕ) → IsPlan c p → key c p < 2 ^ 63

-- such a bound of the box is not above the total of a feasible plan in it; a box for which it is Never holds none
abbrev pub IsSound : Choices → List Literal → (Option ℕ → Type 0) → Type 0
IsSound c box IsOne = (q : List ℕ) (r : Option ℕ) → IsFeasible c q → Holds box q → IsOne r → IsAtMost r (total c q)
