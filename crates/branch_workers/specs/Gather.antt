-- The reaches of each deque, gathered.
use Rattle.std.specs.Prelude.{◌≡◌, ℕ, ◌+◌, ◌<◌, ◌≤◌, List, [], Option, length, slice_index_or, map, drop, true, if◌then◌else◌, ◌==◌, ◌⊎◌, All, Contains, Vec, vec_capacity}
use Rattle.std.specs.Global.{Global}
use Rattle.std.specs.List.{sum_by}
use Rattle.steal_rule.specs.Deques.{Owned, Reaching}
use Rattle.branch_core.specs.declared.report.Report.{Report}
use Rattle.branch_workers.specs.declared.worker.Worker.{Worker}
use Rattle.atomic_table.specs.Seated.{TableId}
use Rattle.plan_rule.specs.declared.job.Job.{Job}
use Rattle.plan_rule.specs.Choices.{Choices}
use Rattle.plan_rule.specs.Paths.{IsInRegion}
use Rattle.plan_rule.specs.Plans.{IsBest}
use Rattle.refutation_log.specs.Logs.{AreSteps}
use Rattle.log_merge.specs.declared.merging.Leaf.{Leaf}
use Rattle.log_merge.specs.Closing.{AllExist}
use Rattle.log_merge.specs.Leaves.{job_of}
use Rattle.log_merge.specs.Merging.{RefutesJob}
use Rattle.log_merge.specs.Tiles.{has, times, root}
use Rattle.branch_workers.specs.Work.{place_of, job_of_report, robbed, IsLogged, IsMade, IsSound, IsStart}
use Rattle.branch_workers.specs.Deal.{IsDealt, pushed_by}
use Rattle.incumbent_word.specs.Sittings.{Place, Sitting}
use Rattle.refutation_log.specs.declared.record.Record.{Record}

-- a weight of the reaches of the deque k alone
abbrev pub only : ℕ → (Reaching → ℕ) → Reaching → ℕ
only k g r = if r.number == k then g r else 0

abbrev pub Pile : Type 0
Pile = Vec Reaching Global

-- the reaches on all piles, weighed
abbrev pub piled : (Reaching → ℕ) → List Pile → ℕ
piled g piles = sum_by (λ (p : Pile). sum_by g p.items) piles

-- of all these reaches those that are not left have come to the piles of their deques
pub record IsGathered (all left : List Reaching) (old now : List Pile) : Type 0 where
  pub size : length now ≡ length old
  pub each : (g : Reaching → ℕ) (k : ℕ) (d : Pile) → k < length old
      → sum_by g (slice_index_or now k d).items + sum_by (only k g) left ≡ sum_by g (slice_index_or old k d).items + sum_by (only k g) all
  pub total : (g : Reaching → ℕ) → piled g now + sum_by g left ≡ piled g old + sum_by g all
  pub named : (k : ℕ) (d : Pile) (r : Reaching) → k < length old → Contains (slice_index_or now k d).items r
      → Contains (slice_index_or old k d).items r ⊎ (Contains all r × (r.number ≡ k))
  pub from : (r : Reaching) → Contains left r → Contains all r
  pub capacity : (k : ℕ) (d : Pile) → k < length old → vec_capacity (slice_index_or old k d) ≤ vec_capacity (slice_index_or now k d)

-- the reaches that workers hold, weighed
abbrev pub held : (Reaching → ℕ) → List Worker → ℕ
held g workers = sum_by (λ (w : Worker). sum_by g w.reaches.items) workers

-- one of the workers holds the reach
abbrev pub IsHeld : List Worker → Reaching → Type 0
IsHeld workers r = (w : Worker) × Contains workers w × Contains w.reaches.items r

-- what gathering leaves of a worker
abbrev pub unreached : Worker → ℕ × Owned × List Report × List Record × Sitting
unreached w = (w.number, w.owner, w.reports, w.log, w.seat)

-- the first i workers' reaches have come to the piles of their deques
pub record IsGathering (old now : List Worker) (before piles : List Pile) (i : ℕ) : Type 0 where
  pub size : length piles ≡ length before
  pub workers_are : length now ≡ length old
  pub rest : map unreached now ≡ map unreached old
  pub each : (g : Reaching → ℕ) (k : ℕ) (d : Pile) → k < length before
      → sum_by g (slice_index_or piles k d).items + held (only k g) (drop i old) ≡ sum_by g (slice_index_or before k d).items + held (only k g) old
  pub total : (g : Reaching → ℕ) → piled g piles + held g (drop i old) ≡ piled g before + held g old
  pub named : (k : ℕ) (d : Pile) (r : Reaching) → k < length before → Contains (slice_index_or piles k d).items r
      → Contains (slice_index_or before k d).items r ⊎ (IsHeld old r × (r.number ≡ k))
  pub capacity : (k : ℕ) (d : Pile) → k < length before → vec_capacity (slice_index_or before k d) ≤ vec_capacity (slice_index_or piles k d)
  pub untouched : (k : ℕ) (d : Worker) → i ≤ k → slice_index_or now k d ≡ slice_index_or old k d

-- the worker's deque may be settled with this pile
pub record IsReady (w : Worker) (p : Pile) : Type 0 where
  pub idle : w.owner.idle ≡ true
  pub same : All (λ (r : Reaching). r.deque ≡ w.owner.deque) p.items
  pub parts : sum_by (λ (r : Reaching). r.parts) p.items ≡ 16

abbrev pub AreReady : List Worker → List Pile → Type 0
AreReady workers piles = (k : ℕ) (d : Worker) (e : Pile) → k < length workers → IsReady (slice_index_or workers k d) (slice_index_or piles k e)

-- the jobs that the workers have popped, weighed
abbrev pub popped_by : (Job → ℕ) → List Worker → ℕ
popped_by h workers = sum_by (λ (w : Worker). sum_by h w.owner.popped) workers

abbrev pub stolen_from : (Job → ℕ) → List Pile → ℕ
stolen_from h piles = piled (λ (r : Reaching). sum_by h r.stolen) piles

-- the deques of the workers that are not left are settled
pub record IsSettling (old left : List Worker) (before piles : List Pile) : Type 0 where
  pub sizes : length left ≡ length piles
  pub ready : AreReady left piles
  pub settled : (h : Job → ℕ) → pushed_by h old + popped_by h left + stolen_from h piles ≡ pushed_by h left + popped_by h old + stolen_from h before

-- a worker that has not begun
pub record IsFresh (board : Place) (w : Worker) : Type 0 where
  pub seat : w.seat.place ≡ board
  pub start : IsStart w
  pub popped : w.owner.popped ≡ []

-- what stays of a worker: its number, its deque, and the places of its reaches
abbrev pub spot_of : Worker → ℕ × TableId × ℕ × List (TableId × ℕ × ℕ) × Place
spot_of w = (w.number, w.owner.deque, w.owner.number, map place_of w.reaches.items, w.seat.place)

-- the jobs that the workers have reported, by path number
abbrev pub reported_by : ℕ → List Worker → ℕ
reported_by x workers = sum_by (λ (w : Worker). times x (map job_of_report w.reports)) workers

-- the jobs that the workers have reported, weighed
abbrev pub reports_by : (Job → ℕ) → List Worker → ℕ
reports_by h workers = sum_by (λ (w : Worker). sum_by h (map job_of_report w.reports)) workers

-- what was reported and pushed is what was popped, stolen and there before
abbrev pub IsAccounted : List Worker → List Worker → Type 0
IsAccounted old now = (x : ℕ) → reported_by x now + pushed_by (has x) now
    ≡ popped_by (has x) now + held (λ (r : Reaching). sum_by (has x) r.stolen) now + pushed_by (has x) old

-- each report is sound, and has its record in the log
pub record IsHonest (c : Choices) (w : Worker) : Type 0 where
  pub sound : All (IsSound c) w.reports
  pub logged : IsLogged c w.log w.seat.seen w.reports

-- each reported job was popped, stolen or made, and each pushed job was dealt or made
pub record IsTraced (c : Choices) (split : ℕ) (w : Worker) : Type 0 where
  pub jobs : All (λ (r : Report). ((h : Job → ℕ) → h r.job ≤ sum_by h w.owner.popped + robbed h w.reaches.items) ⊎ IsMade c split r.job) w.reports
  pub pushed : All (IsDealt c split) w.owner.pushed

-- each job that the worker's owner has pushed is one that may be dealt
pub record HasDealt (c : Choices) (split : ℕ) (w : Worker) : Type 0 where
  pub pushed : All (IsDealt c split) w.owner.pushed

-- what a worker has done says what it should
pub record IsDone (c : Choices) (split : ℕ) (w : Worker) : Type 0 where
  pub honest : IsHonest c w
  pub traced : IsTraced c split w

-- each reported job was popped or stolen by one of the crew, or made, and each pushed job was dealt or made
pub record AreTraced (c : Choices) (split : ℕ) (all : List Report) (workers : List Worker) (piles : List Pile) : Type 0 where
  pub jobs : All (λ (r : Report). ((h : Job → ℕ) → h r.job ≤ popped_by h workers + stolen_from h piles) ⊎ IsMade c split r.job) all
  pub pushed : All (λ (w : Worker). All (IsDealt c split) w.owner.pushed) workers

abbrev pub IsIdleWorker : Worker → Type 0
IsIdleWorker w = w.owner.idle ≡ true

-- a plan lies in the job's region
abbrev pub HasPlan : Choices → Job → Type 0
HasPlan c job = (p : List ℕ) × IsInRegion c job p

-- workers and piles as they are made: each pile has the reach of its deque that no worker holds
pub record IsMadeFor (board : Place) (workers : List Worker) (piles : List Pile) : Type 0 where
  pub sizes : length workers ≡ length piles
  pub fresh : All (IsFresh board) workers
  pub unpushed_is : All (λ (w : Worker). length w.owner.pushed ≡ 0) workers
  pub own : (k : ℕ) (d : Worker) (e : Pile) → k < length workers → All (λ (r : Reaching). (r.deque ≡ (slice_index_or workers k d).owner.deque) × (r.stolen ≡ [])) (slice_index_or piles k e).items
  pub named : (r : Reaching) → IsHeld workers r → (r.number < length workers) × ((d : Worker) → r.deque ≡ (slice_index_or workers r.number d).owner.deque)
  pub parts : (k : ℕ) (e : Pile) → k < length workers → sum_by (λ (r : Reaching). r.parts) (slice_index_or piles k e).items + held (only k (λ (r : Reaching). r.parts)) workers ≡ 16
  pub room : (k : ℕ) (e : Pile) → k < length workers → length (slice_index_or piles k e).items + held (only k (λ _. 1)) workers ≤ vec_capacity (slice_index_or piles k e)

-- what was reported and pushed is what was popped, stolen and dealt
abbrev pub IsTold : List Worker → List Pile → Type 0
IsTold workers piles = (x : ℕ) → reported_by x workers + pushed_by (has x) workers ≡ popped_by (has x) workers + stolen_from (has x) piles + has x root

-- a worker's owner and its seat
abbrev pub owner_of : Worker → Owned × Sitting
owner_of w = (w.owner, w.seat)

-- the first i workers' reports are taken
pub record IsReporting (old now : List Worker) (all : List Report) (i : ℕ) : Type 0 where
  pub workers_are : length now ≡ length old
  pub owners : map owner_of now ≡ map owner_of old
  pub weighed : (h : Job → ℕ) → sum_by h (map job_of_report all) + reports_by h (drop i old) ≡ reports_by h old
  pub from : (r : Report) → Contains all r → (w : Worker) × Contains old w × Contains w.reports r
  pub untouched : (k : ℕ) (d : Worker) → i ≤ k → slice_index_or now k d ≡ slice_index_or old k d

-- the reports and what was pushed are what was popped, stolen and dealt
abbrev pub IsBalanced : List Report → List Worker → List Pile → Type 0
IsBalanced reports workers piles = (x : ℕ) → times x (map job_of_report reports) + pushed_by (has x) workers
    ≡ popped_by (has x) workers + stolen_from (has x) piles + has x root

-- each reported job was popped or stolen by one of the crew, or made, and each pushed job was dealt or made
pub record AreTracedBy (c : Choices) (split : ℕ) (workers : List Worker) (piles : List Pile) : Type 0 where
  pub jobs : All (λ (w : Worker). All (λ (r : Report). ((h : Job → ℕ) → h r.job ≤ popped_by h workers + stolen_from h piles) ⊎ IsMade c split r.job) w.reports) workers
  pub pushed : All (λ (w : Worker). All (IsDealt c split) w.owner.pushed) workers

-- the logs and the reports of all workers, put together: the leaves have the reports' jobs, and each leaf's record
-- refutes its region where the reports' regions have plans
pub record AreCollected (c : Choices) (all : List Report) (log : List Record) (leaves : List Leaf) : Type 0 where
  pub weighed : (h : Job → ℕ) → sum_by h (map job_of leaves) ≡ sum_by h (map job_of_report all)
  pub shown : All (λ (r : Report). HasPlan c r.job) all → All (λ (l : Leaf). RefutesJob c log l.record l.job) leaves
  pub exist : AllExist c log
  pub steps : (t : Option (List ℕ)) → IsBest c t → AreSteps c t log

-- the seats of the workers that are not left are joined to one
pub record IsJoined (board : Place) (old left : List Worker) (first seat : Sitting) : Type 0 where
  pub place : seat.place ≡ board
  pub seats : All (λ (w : Worker). w.seat.place ≡ board) left
  pub kept : (k : ℕ) → Contains first.seen k → Contains seat.seen k
  pub from : (w : Worker) (k : ℕ) → Contains old w → Contains w.seat.seen k → Contains left w ⊎ Contains seat.seen k

-- what the reports of all workers say
pub record AreTold (c : Choices) (all : List Report) (ws : List Worker) : Type 0 where
  pub sound : All (IsSound c) all
  pub seen : (r : Report) → Contains all r → (w : Worker) × Contains ws w × Contains w.seat.seen r.seen
