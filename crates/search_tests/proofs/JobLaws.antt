-- What a report has for the best.
use Rattle.std.proofs.Common.{◌≡◌, ℕ, List, Option, Some, None, refl}
use Rattle.std.specs.Prelude.{IfSome}
use Rattle.plan_rule.specs.declared.job.Job.{Job}
use Rattle.plan_rule.specs.Choices.{Choices}
use Rattle.plan_rule.specs.Plans.{IsPlan}
use Rattle.branch_kernel.specs.States.{State}
use Rattle.branch_core.specs.declared.report.Report.{Report}
use Rattle.branch_core.specs.Solved.{IsSolved}

-- what a report has for the best is a plan
pub report_plan : (c : Choices) (job : Job) (old new : State) (r : Report) → IsSolved c job old new r → IfSome r.best (IsPlan c)
report_plan c job old new r solved = go r.best (λ p e. let reached = solved.reached p e in reached.0.is_plan)
  where
    go : (best : Option (List ℕ)) → ((p : List ℕ) → best ≡ Some p → IsPlan c p) → IfSome best (IsPlan c)
    go None h = tt
    go (Some p) h = h p refl
