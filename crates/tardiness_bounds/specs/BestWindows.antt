-- The window of greatest energy.
use Rattle.std.specs.Prelude.{◌≡◌, ℕ, ◌+◌, ◌<◌, ◌≤◌, ◌⊎◌, List, Option, Some, None}
use Rattle.plan_rule.specs.declared.literal.Literal.{Literal}
use Rattle.plan_rule.specs.Choices.{Choices, blocks}
use Rattle.plan_rule.specs.Boxes.{exact_code}
use Rattle.plan_rule.specs.Bounds.{IsBase, IsEnergy}
use Rattle.tardiness_bounds.specs.declared.best.Best.{Best}
use Rattle.tardiness_bounds.specs.declared.bound.Bound.{Bound}
use Rattle.tardiness_bounds.specs.Numbers.{number}

-- the day is the release of a block that is not exact in the box
abbrev pub IsStart : Choices → List Literal → ℕ → Type 0
IsStart c box u = (b : ℕ) × (b < blocks c) × (exact_code box b ≡ None) × (c.release b ≡ u)

-- the day is the due day of such a block
abbrev pub IsDue : Choices → List Literal → ℕ → Type 0
IsDue c box e = (b : ℕ) × (b < blocks c) × (exact_code box b ≡ None) × (c.due b ≡ e)

-- a window from such a release to such a due day, or to the last day
pub record IsCandidate (c : Choices) (box : List Literal) (u e : ℕ) : Type 0 where
  pub start : IsStart c box u
  pub end : IsDue c box e ⊎ (e + 1 ≡ c.days)
  pub order : u ≤ e
  pub days : e < c.days

-- the first bound is above the second; Never is above every number
abbrev pub IsAbove : Option ℕ → Option ℕ → Type 0
IsAbove r None = ⊥
IsAbove None (Some k) = Unit {0}
IsAbove (Some r) (Some k) = k < r

-- the first window begins earlier, or on the same day and ends earlier
abbrev pub ComesFirst : ℕ → ℕ → ℕ → ℕ → Type 0
ComesFirst u e v f = (u < v) ⊎ ((u ≡ v) × (e < f))

-- a candidate of the kind: its energy is above the base, no candidate of the kind has a greater one, and none of them that has the same
-- comes first
pub record IsBestOf (c : Choices) (box : List Literal) (Kind : ℕ → ℕ → Type 0) (u e : ℕ) (r : Option ℕ) : Type 0 where
  pub kind : Kind u e
  pub candidate : IsCandidate c box u e
  pub energy : IsEnergy c u e box r
  pub above : (k : Option ℕ) → IsBase c box k → IsAbove r k
  pub greatest : (v f : ℕ) (s : Option ℕ) → Kind v f → IsCandidate c box v f → IsEnergy c v f box s → IsAbove s r → ⊥
  pub first : (v f : ℕ) → Kind v f → IsCandidate c box v f → IsEnergy c v f box r → ComesFirst v f u e → ⊥

-- no candidate of the kind has an energy above the base
abbrev pub HasNoBest : Choices → List Literal → (ℕ → ℕ → Type 0) → Type 0
HasNoBest c box Kind =
    (u e : ℕ) (r k : Option ℕ) → Kind u e → IsCandidate c box u e → IsEnergy c u e box r → IsBase c box k → IsAbove r k → ⊥

-- the best window of a kind, if there is one
abbrev pub IsBestAmong : Choices → List Literal → (ℕ → ℕ → Type 0) → Option Best → Type 0
IsBestAmong c box Kind None = HasNoBest c box Kind
IsBestAmong c box Kind (Some b) = IsBestOf c box Kind b.from b.to (number b.energy)

-- the windows that come before a window
abbrev pub Precedes : ℕ → ℕ → ℕ → ℕ → Type 0
Precedes u e v f = ComesFirst v f u e

-- what an energy must be above to be the best: that of the best window so far, or the base
abbrev pub bar_of : Option Best → Bound → Bound
bar_of None base = base
bar_of (Some b) base = b.energy

-- any window
abbrev pub AnyWindow : ℕ → ℕ → Type 0
AnyWindow u e = Unit {0}

-- the candidate of greatest energy, the first of them; none where no candidate's energy is above the base
abbrev pub IsBestWindow : Choices → List Literal → Option (ℕ × ℕ) → Type 0
IsBestWindow c box None = HasNoBest c box AnyWindow
IsBestWindow c box (Some w) = (r : Option ℕ) × IsBestOf c box AnyWindow w.0 w.1 r
