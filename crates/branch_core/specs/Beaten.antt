-- The box of the exact codes of a prefix, and the bounds that beat it.
use Rattle.std.specs.Prelude.{ℕ, suc, List, [], ◌∷◌, Option, Some, ◌⊎◌}
use Rattle.plan_rule.specs.declared.literal.Literal.{Literal}
use Rattle.plan_rule.specs.Choices.{Choices}
use Rattle.plan_rule.specs.Boxes.{exact}
use Rattle.plan_rule.specs.Bounds.{IsFit, IsEnergy}
use Rattle.plan_rule.specs.Paths.{IsAboveBar}
use Rattle.tardiness_bounds.specs.BestWindows.{IsBestWindow}

-- the exact literals of these codes of the blocks from b on
abbrev pub exact_box : ℕ → List ℕ → List Literal
exact_box b [] = []
exact_box b (code ∷ codes) = exact b code ∷ exact_box (suc b) codes

-- a bound of the box is above the total that the bar leaves: its fit, or its energy in the best window
abbrev pub IsBeaten : Choices → List Literal → ℕ → Type 0
IsBeaten c box bar =
    ((r : Option ℕ) × IsFit c box r × IsAboveBar r bar)
    ⊎ ((u : ℕ) × (e : ℕ) × (r : Option ℕ) × IsBestWindow c box (Some (u, e)) × IsEnergy c u e box r × IsAboveBar r bar)
