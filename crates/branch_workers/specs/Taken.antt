-- A worker's log and reports, taken into one log and one list of leaves.
use Rattle.std.specs.Prelude.{◌≡◌, ℕ, ◌+◌, List, map, All, Option}
use Rattle.std.specs.List.{sum_by}
use Rattle.branch_core.specs.declared.report.Report.{Report}
use Rattle.shape_exact.specs.Yards.{PlainYard}
use Rattle.plan_rule.specs.declared.job.Job.{Job}
use Rattle.plan_rule.specs.Choices.{Choices}
use Rattle.plan_rule.specs.Yards.{choices}
use Rattle.refutation_log.specs.declared.record.Record.{Record}
use Rattle.refutation_log.specs.Logs.{AreSteps, CiteEarlier}
use Rattle.log_merge.specs.declared.merging.Leaf.{Leaf}
use Rattle.log_merge.specs.Leaves.{job_of}
use Rattle.log_merge.specs.Closing.{AllExist}
use Rattle.log_merge.specs.Merging.{RefutesJob}
use Rattle.branch_workers.specs.Gather.{reports_by}
use Rattle.branch_workers.specs.declared.worker.Worker.{Worker}

-- each report's record shows the region of its job
abbrev pub AreShown : Choices → List Record → List Report → Type 0
AreShown c log reports = All (λ (r : Report). RefutesJob c log r.refutation r.job) reports

-- each leaf's record shows the region of its job
abbrev pub AreLeaves : Choices → List Record → List Leaf → Type 0
AreLeaves c log leaves = All (λ (l : Leaf). RefutesJob c log l.record l.job) leaves

-- what the reports' records show in their own log, the new leaves' records show in the whole
abbrev pub KeepsLeaves : List Record → List Record → List Record → List Leaf → List Report → List Leaf → Type 0
KeepsLeaves log own whole old reports new =
    (yard : PlainYard) → AreLeaves (choices yard) log old → AreShown (choices yard) own reports → AreLeaves (choices yard) whole new

-- where the block of each record of both logs exists, so does that of each of the whole
abbrev pub KeepsExisting : List Record → List Record → List Record → Type 0
KeepsExisting log own whole = (yard : PlainYard) → AllExist (choices yard) log → AllExist (choices yard) own → AllExist (choices yard) whole

-- the worker's log can be taken into another one
abbrev pub CanBeTaken : Worker → Type 0
CanBeTaken w = CiteEarlier w.log

-- The workers' logs and reports are taken: each path number has gained a leaf for each report that has it, and what
-- holds of the log and of each worker's holds of the whole.
pub record AreTaken (log : List Record) (leaves : List Leaf) (workers : List Worker) (whole : List Record) (all : List Leaf) : Type 0 where
  pub weighed : (h : Job → ℕ) → sum_by h (map job_of all) ≡ sum_by h (map job_of leaves) + reports_by h workers
  pub shown : (yard : PlainYard) → AreLeaves (choices yard) log leaves → All (λ (w : Worker). AreShown (choices yard) w.log w.reports) workers
      → AreLeaves (choices yard) whole all
  pub exist : (yard : PlainYard) → AllExist (choices yard) log → All (λ (w : Worker). AllExist (choices yard) w.log) workers → AllExist (choices yard) whole
  pub steps : (yard : PlainYard) (t : Option (List ℕ)) → AreSteps (choices yard) t log → All (λ (w : Worker). AreSteps (choices yard) t w.log) workers
      → AreSteps (choices yard) t whole
