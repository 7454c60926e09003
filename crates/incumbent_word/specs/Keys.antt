-- The key of a feasible plan.
use Rattle.std.specs.Prelude.{◌≡◌, ℕ, List}
use Rattle.plan_rule.specs.Choices.{Choices}
use Rattle.plan_rule.specs.Plans.{IsFeasible}
use Rattle.plan_rule.specs.Paths.{key}

-- the number is the key of a feasible plan
abbrev pub IsFeasibleKey : Choices → ℕ → Type 0
IsFeasibleKey c n = (p : List ℕ) × IsFeasible c p × (key c p ≡ n)
