-- A plan that is claimed to be the best, or that none is feasible.
use Rattle.std.specs.Prelude.{◌≡◌, ℕ, List, Option, IfSome}
use Rattle.std.specs.Option.{option_map}
use Rattle.plan_rule.specs.Choices.{Choices}
use Rattle.plan_rule.specs.Plans.{IsPlan, total}
use Rattle.log_checker.specs.declared.claim.Claim.{Claim}

-- the plan that is claimed
abbrev pub plan_of : Option Claim → Option (List ℕ)
plan_of claim = option_map (λ c. c.plan.now) claim

-- none, or a plan with its total
abbrev pub IsClaim : Choices → Option Claim → Type 0
IsClaim c claim = IfSome claim (λ k. IsPlan c k.plan.now × (k.total ≡ total c k.plan.now))
