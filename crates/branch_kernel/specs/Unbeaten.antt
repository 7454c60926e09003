-- Boxes that their bounds leave open.
use Rattle.std.specs.Prelude.{ℕ, ◌≤◌, Bool, List, Option, Some}
use Rattle.plan_rule.specs.declared.literal.Literal.{Literal}
use Rattle.plan_rule.specs.Choices.{Choices}
use Rattle.plan_rule.specs.Bounds.{IsFit, IsEnergy, IsAtMost}
use Rattle.refutation_log.specs.declared.record.Record.{Record}
use Rattle.refutation_log.specs.declared.record.Record.TheVariants.{Branch, Fit, Energy}
use Rattle.tardiness_bounds.specs.BestWindows.{IsBestWindow}
use Rattle.branch_kernel.specs.Boxes.{kept}

-- the fit of a branch's side does not exceed the total
abbrev pub IsAsked : Choices → ℕ → Record → Type 0
IsAsked c total (Branch b lo hi side cites) = (r : Option ℕ) → IsFit c side r → IsAtMost r total
IsAsked c total (Fit side) = Unit {0}
IsAsked c total (Energy from to side) = Unit {0}

-- the bounds of the box do not beat it: its fit is at most the total, and so is its energy in the best window
pub record IsUnbeaten (c : Choices) (part : List Literal) (total : ℕ) : Type 0 where
  pub fit : ℕ
  pub fit_is : IsFit c part (Some fit)
  pub low : fit ≤ total
  pub energy : (u e : ℕ) (r : Option ℕ) → IsBestWindow c part (Some (u, e)) → IsEnergy c u e part r → IsAtMost r total

-- no fit of what is kept of the side is above the total
abbrev pub IsAskedSide : Choices → List Literal → ℕ → Type 0
IsAskedSide c side total = (keep : ℕ → Bool) (r : Option ℕ) → IsFit c (kept keep side) r → IsAtMost r total
