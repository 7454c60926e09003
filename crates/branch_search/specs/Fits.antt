-- What is asked of the fit of a box.
use Rattle.std.specs.Prelude.{ℕ, ◌≤◌, List, Option, Some, All, Contains}
use Rattle.plan_rule.specs.declared.literal.Literal.{Literal}
use Rattle.plan_rule.specs.Choices.{Choices}
use Rattle.plan_rule.specs.Boxes.{IsBox}
use Rattle.plan_rule.specs.Bounds.{IsFit}
use Rattle.branch_kernel.specs.Rivals.{Beats}
use Rattle.branch_kernel.specs.States.{relied}
use Rattle.branch_search.specs.declared.fits.Beaten.{Beaten}

-- the fit of the box is at most the total
abbrev pub HasLowFit : Choices → List Literal → ℕ → Type 0
HasLowFit c part total = (k : ℕ) × IsFit c part (Some k) × (k ≤ total)

-- a box of literals of the part, which its fit beats
abbrev pub IsBeatenSide : Choices → ℕ → Option (List ℕ) → List Literal → Beaten → Type 0
IsBeatenSide c bar best part beaten =
    IsBox c beaten.side × All (Contains part) beaten.side
    × ((r : Option ℕ) × IsFit c beaten.side r × Beats c bar (relied beaten.tie best) beaten.side r)
