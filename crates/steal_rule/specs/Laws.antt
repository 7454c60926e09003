-- What the rule of a deque says of the pushed jobs.
use Rattle.std.specs.Prelude.{◌≡◌, ℕ, ◌+◌, ◌≤◌, true, List, slice_index}
use Rattle.std.specs.List.{sum_by}
use mathlib.Core.Option.{some}
use lib.ListN.{get_elem?}
use Rattle.plan_rule.specs.declared.job.Job.{Job}
use Rattle.steal_rule.specs.declared.rule.View.{View}
use Rattle.steal_rule.specs.Rule.{IsDeque, times_emptied, weight_of, weight_taken}
use Rattle.steal_rule.specs.Places.{IsOwner}

-- each cell was emptied at most once, and the jobs that were taken and those that are left weigh what was pushed
pub record AreTakenOnce (cells : List ℕ) (views : List View) (pushed : List Job) : Type 0 where
  pub once : (k : ℕ) → sum_by (times_emptied k) views ≤ 1
  pub weighed : (h : Job → ℕ) → sum_by (weight_taken h) views + sum_by (weight_of h) cells ≡ sum_by h pushed

-- wherever the rule holds, this is so of what the owner has pushed
abbrev pub JobsAreTakenOnce : Type 0
JobsAreTakenOnce =
    (cells : List ℕ) (views : List View) (owner : ℕ) (v : View)
    → IsDeque cells views → get_elem? views owner ≡ some v → v.owns ≡ true → AreTakenOnce cells views v.pushed

-- wherever the rule holds and the owner's last pop answered None with nothing pushed since, no cell has a job
abbrev pub IdleOwnersLeaveNone : Type 0
IdleOwnersLeaveNone =
    (cells : List ℕ) (views : List View) (owner : ℕ) (v : View)
    → IsDeque cells views → get_elem? views owner ≡ some v → IsOwner v → v.idle ≡ true → (k : ℕ) → slice_index cells k ≡ 0
