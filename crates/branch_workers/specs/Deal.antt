-- The jobs that are dealt before the start.
use Rattle.std.specs.Prelude.{slice_index_or as get_or, false, ◌≡◌, ℕ, ◌+◌, ◌<◌, ◌≤◌, List, [], ◌∷◌, ◌++◌, length, drop, map, ◌⊎◌}
use Rattle.std.specs.List.{sum_by}
use Rattle.plan_rule.specs.declared.job.Job.{Job}
use Rattle.plan_rule.specs.Choices.{Choices}
use Rattle.plan_rule.specs.Jobs.{IsJob, lower, upper}
use Rattle.log_merge.specs.Tiles.{root}
use Rattle.branch_workers.specs.Work.{IsHalf, IsSplit}
use Rattle.branch_workers.specs.declared.worker.Worker.{Worker}

-- the root, or a half of a job whose region is a part with a range, of a length at most n
pub record IsDealt (c : Choices) (n : ℕ) (job : Job) : Type 0 where
  pub job_is : IsJob job
  pub short : job.length ≤ n
  pub root_or_half : (job ≡ root) ⊎ IsHalf c job

-- the jobs that the workers have pushed, weighed
abbrev pub pushed_by : (Job → ℕ) → List Worker → ℕ
pushed_by h workers = sum_by (λ (w : Worker). sum_by h w.owner.pushed) workers

-- a worker with all but the jobs that its owner has pushed
abbrev pub with_pushed : Worker → List Job → Worker
with_pushed w pushed = record {
  number = w.number;
  seat = w.seat;
  owner = record { deque = w.owner.deque; number = w.owner.number; pushed = pushed; popped = w.owner.popped; finds = w.owner.finds; idle = false };
  reaches = w.reaches;
  store = w.store;
  reports = w.reports;
  log = w.log;
  capsules = w.capsules;
}

-- all of a worker but the jobs that its owner has pushed
abbrev pub unpushed : Worker → Worker
unpushed w = with_pushed w []

-- the first i workers have got one more job, as long as there were any
pub record IsRound (jobs : List Job) (from next : ℕ) (old now : List Worker) (i : ℕ) : Type 0 where
  pub size : length now ≡ length old
  pub rest : map unpushed now ≡ map unpushed old
  pub within : next ≤ length jobs
  pub next_is : (next ≡ from + i) ⊎ (next ≡ length jobs)
  pub given : (h : Job → ℕ) → pushed_by h now + sum_by h (drop next jobs) ≡ pushed_by h old + sum_by h (drop from jobs)
  pub one : (k : ℕ) (d : Worker) → k < i → length (get_or now k d).owner.pushed ≤ length (get_or old k d).owner.pushed + 1
  pub untouched : (k : ℕ) (d : Worker) → i ≤ k → get_or now k d ≡ get_or old k d

-- the list has gained the job, or its halves where its region is a part with a range
abbrev pub IsHalvedOnto : Choices → List Job → List Job → Job → Type 0
IsHalvedOnto c old new job =
    (new ≡ old ++ job ∷ []) ⊎ (IsSplit c job × (new ≡ (old ++ lower job ∷ []) ++ upper job ∷ []))
