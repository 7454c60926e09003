-- The plan in hand while plans are searched.
use Rattle.std.specs.Prelude.{◌≡◌, ℕ, Bool, true, nat_lt, List, Option, Some, None, ◌⊎◌}
use Rattle.plan_rule.specs.Choices.{Choices}
use Rattle.plan_rule.specs.Plans.{IsFeasible, total, IsLexLess, Extends, IsLeastOn, Improves}
use Rattle.plain_search.specs.declared.hand.Hand.{Hand}

-- the plan in hand
abbrev pub plan_of : Option Hand → Option (List ℕ)
plan_of None = None
plan_of (Some hand) = Some hand.plan

-- the plan in hand is feasible, and its total is kept with it
abbrev pub IsKept : Choices → Option Hand → Type 0
IsKept c None = Unit {0}
IsKept c (Some hand) = IsFeasible c hand.plan × (hand.total ≡ total c hand.plan)

-- a plan of this total would be better than the plan in hand
abbrev pub can_beat : Option Hand → ℕ → Bool
can_beat None sum = true
can_beat (Some hand) sum = nat_lt sum hand.total

-- the codes of the plan in hand come before those of every plan with this front
abbrev pub IsEarlier : Option Hand → List ℕ → Type 0
IsEarlier None front = Unit {0}
IsEarlier (Some hand) front = IsLexLess hand.plan front

-- the plan in hand begins with this front
abbrev pub StartsWith : List ℕ → Option Hand → Type 0
StartsWith front None = ⊥
StartsWith front (Some hand) = Extends front hand.plan

-- what is in hand once the plans with this front have been searched
pub record Searched (c : Choices) (front : List ℕ) (old new : Option Hand) : Type 0 where
  pub kept : IsKept c new
  pub better : Improves c (plan_of old) (plan_of new)
  pub least : IsLeastOn c front (plan_of new)
  pub from : (new ≡ old) ⊎ StartsWith front new
