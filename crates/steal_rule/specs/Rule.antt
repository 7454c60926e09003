-- The rule of a deque, which holds between any two steps of its owner and its reaches.
use Rattle.std.specs.Prelude.{◌≡◌, ◌≢◌, ℕ, ◌+◌, ◌-◌, ◌<◌, ◌≤◌, ◌==◌, true, false, List, length, if◌then◌else◌, All, slice_index, slice_get, Some}
use Rattle.std.specs.List.{sum_by}
use mathlib.Core.Option.{some}
use lib.ListN.{get_elem?}
use Rattle.atomic_table.specs.Table.{State}
use Rattle.plan_rule.specs.declared.job.Job.{Job}
use Rattle.plan_rule.specs.Jobs.{IsJob}
use Rattle.steal_rule.specs.declared.rule.View.{View}
use Rattle.steal_rule.specs.Views.{spent, job_of}

-- the view with this number is the owner's
abbrev pub HasOwner : List View → ℕ → Type 0
HasOwner views owner = (v : View) × (get_elem? views owner ≡ some v) × (v.owns ≡ true)

-- a cell that a view has emptied held the pushed job of its place, and is empty
abbrev pub IsEmptied : List ℕ → List Job → ℕ × Job → Type 0
IsEmptied cells pushed e = (slice_get pushed e.0 ≡ Some e.1) × (slice_index cells e.0 ≡ 0)

-- a cell was pushed to, and is empty
abbrev pub IsGone : List ℕ → List Job → ℕ → Type 0
IsGone cells pushed k = (k < length pushed) × (slice_index cells k ≡ 0)

-- What holds of the view with the number id: if it owns, it is the owner's and has the pushed jobs; the cells that it
-- has emptied and those that it knows to be gone are so; a reach has at least one part; a view that was taken in is
-- spent.
pub record Fits (cells : List ℕ) (pushed : List Job) (owner_id id : ℕ) (v : View) : Type 0 where
  pub owner : v.owns ≡ true → (id ≡ owner_id) × (v.pushed ≡ pushed)
  pub emptied : All (IsEmptied cells pushed) v.emptied
  pub gone : All (IsGone cells pushed) v.gone
  pub parts : v.live ≡ true → v.owns ≡ false → 0 < v.parts
  pub spent : v.live ≡ false → v ≡ spent

-- how often a view has emptied the cell k
abbrev pub times_emptied : ℕ → View → ℕ
times_emptied k v = sum_by (λ (e : ℕ × Job). if e.0 == k then 1 else 0) v.emptied

-- 1 where the cell holds a job
abbrev pub is_full : ℕ → ℕ
is_full n = if n == 0 then 0 else 1

-- the weight of the job that the cell holds
abbrev pub weight_of : (Job → ℕ) → ℕ → ℕ
weight_of h n = if n == 0 then 0 else h (job_of (n - 1))

-- the weight of the jobs that a view has emptied
abbrev pub weight_taken : (Job → ℕ) → View → ℕ
weight_taken h v = sum_by (λ (e : ℕ × Job). h e.1) v.emptied

-- One view is the owner's, and at most 64 jobs are pushed. A cell that holds a job holds the pushed job of its place,
-- so each cell past the pushed jobs is empty. A cell that was pushed to holds its job, or one view emptied it, once;
-- none of the others was ever emptied. The views have 16 parts together. So, however jobs are weighed, those that were
-- taken and those that are left weigh what was pushed.
pub record IsDeque (cells : List ℕ) (views : List View) : Type 0 where
  pub owner : ℕ
  pub pushed : List Job
  pub owned : HasOwner views owner
  pub size : length cells ≡ 64
  pub room : length pushed ≤ 64
  pub jobs : All IsJob pushed
  pub full : (k : ℕ) → slice_index cells k ≢ 0 → slice_get pushed k ≡ Some (job_of (slice_index cells k - 1))
  pub fits : (id : ℕ) (v : View) → get_elem? views id ≡ some v → Fits cells pushed owner id v
  pub once : (k : ℕ) → k < length pushed → sum_by (times_emptied k) views + is_full (slice_index cells k) ≡ 1
  pub never : (k : ℕ) → length pushed ≤ k → sum_by (times_emptied k) views ≡ 0
  pub parts : sum_by (λ (v : View). v.parts) views ≡ 16
  pub weighed : (h : Job → ℕ) → sum_by (weight_taken h) views + sum_by (weight_of h) cells ≡ sum_by h pushed

-- the rule of a deque's table
abbrev pub Holds : State (Unit {0}) View → Type 0
Holds s = IsDeque s.words s.views
