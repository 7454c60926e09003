-- What a search has in its hands.
use Rattle.std.specs.Prelude.{ℕ, ◌≤◌, Bool, true, false, List, Option, Some, None}
use Rattle.plan_rule.specs.declared.job.Job.{Job}
use Rattle.plan_rule.specs.Choices.{Choices}
use Rattle.plan_rule.specs.Plans.{IsFeasible}
use Rattle.plan_rule.specs.Paths.{key, IsInRegion}
use Rattle.refutation_log.specs.declared.record.Record.{Record}
use Rattle.nogood_store.specs.declared.nogood.Nogood.{Nogood}
use Rattle.nogood_store.specs.Hits.{PlainStore}

-- what a search has: the bar, its own best, its log, its store
pub record State : Type 0 where
  pub bar : ℕ
  pub best : Option (List ℕ)
  pub log : List Record
  pub store : List Nogood

-- the state of these
abbrev pub state : ℕ → Option (List ℕ) → List Record → PlainStore → State
state bar best log store = record { bar = bar; best = best; log = log; store = store.nogoods }

-- the best on which something rests: none, where it does not rest on a tie with the best
abbrev pub relied : Bool → Option (List ℕ) → Option (List ℕ)
relied true best = best
relied false best = None

-- the best is none, or a feasible plan with a key not below the bar
abbrev pub IsHeld : Choices → ℕ → Option (List ℕ) → Type 0
IsHeld c bar None = Unit {0}
IsHeld c bar (Some m) = IsFeasible c m × (bar ≤ key c m)

-- the best is none, or a plan of the region
abbrev pub IsInside : Choices → Job → Option (List ℕ) → Type 0
IsInside c job None = Unit {0}
IsInside c job (Some m) = IsInRegion c job m
