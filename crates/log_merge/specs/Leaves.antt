-- Leaves in any order.
use Rattle.std.specs.Prelude.{◌≡◌, ℕ, List, map, All}
use Rattle.plan_rule.specs.declared.job.Job.{Job}
use Rattle.plan_rule.specs.Choices.{Choices}
use Rattle.plan_rule.specs.Fronts.{HasCodes}
use Rattle.plan_rule.specs.Jobs.{IsJob}
use Rattle.refutation_log.specs.declared.record.Record.{Record}
use Rattle.log_merge.specs.declared.merging.Leaf.{Leaf}
use Rattle.log_merge.specs.Closing.{AllExist}
use Rattle.log_merge.specs.Merging.{IsRootOrHalf, RefutesJob}
use Rattle.log_merge.specs.Tiles.{has, root, times}

-- the leaf's job
abbrev pub job_of : Leaf → Job
job_of l = l.job

-- each path number lies in one leaf, each leaf is the root or a half of a job with two plans, and each leaf's record
-- refutes its region
pub record AreLeavesOf (c : Choices) (log : List Record) (leaves : List Leaf) : Type 0 where
  pub once : (x : ℕ) → times x (map job_of leaves) ≡ has x root
  pub jobs : All (λ (l : Leaf). IsJob l.job × IsRootOrHalf c l.job) leaves
  pub shown : HasCodes c → All (λ (l : Leaf). RefutesJob c log l.record l.job) leaves
  pub exist : AllExist c log
