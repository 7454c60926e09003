-- What `load` says of the yard that is drawn from a seed.
use Rattle.std.specs.Prelude.{◌≡◌, ℕ, List, ◌++◌, Option, Some, None, codes}
use Rattle.std.specs.Fmt.{decimal}
use Rattle.shape_exact.specs.Yards.{PlainYard}
use Rattle.common_lists.specs.Each.{sum_below}
use Rattle.yard_generator.specs.Yards.{drawn_yard}
use Rattle.plan_rule.specs.Choices.{blocks, count}
use Rattle.plan_rule.specs.Plans.{IsBest, total}
use Rattle.plan_rule.specs.Paths.{path}
use Rattle.plan_rule.specs.Yards.{choices}
use Rattle.scheduler_run.specs.Outcomes.{Outcome}
use Rattle.scheduler_run.specs.PlanAnswers.{status_of}

-- how many placements the blocks of a yard have together
abbrev pub all_placements : PlainYard → ℕ
all_placements yard = sum_below (blocks (choices yard)) (count (choices yard))

-- a word and a number
abbrev pub figure_line : List ℕ → ℕ → List ℕ
figure_line word n = word ++ (codes " " ++ (decimal n ++ codes "\n"))

-- the lines of a plan: the placements of all blocks, the plan's total and its path number; `no plan` where there is none
abbrev pub figures_text : PlainYard → Option (List ℕ) → List ℕ
figures_text yard None = codes "no plan\n"
figures_text yard (Some plan) =
    figure_line (codes "placements") (all_placements yard)
    ++ (figure_line (codes "total") (total (choices yard) plan) ++ figure_line (codes "path") (path (choices yard) plan))

-- the seed and the number of blocks, and then the lines of the plan
abbrev pub summary : (seed number : ℕ) → PlainYard → Option (List ℕ) → List ℕ
summary seed number yard best =
    (codes "load " ++ (decimal seed ++ (codes " " ++ (decimal number ++ codes "\n")))) ++ figures_text yard best

-- the summary of the yard's best plan is said with status 0, or that no plan is feasible with status 3
pub record SumsUp (seed number : ℕ) (yard : PlainYard) (outcome : Outcome) : Type 0 where
  pub best : Option (List ℕ)
  pub is_best : IsBest (choices yard) best
  pub status_is : outcome.status ≡ status_of best
  pub made_is : outcome.made ≡ None
  pub said_is : outcome.said ≡ summary seed number yard best

-- the answer to a seed and a number of blocks
abbrev pub LoadsDrawn : ℕ → ℕ → Outcome → Type 0
LoadsDrawn seed number outcome = SumsUp seed number (drawn_yard seed number) outcome
