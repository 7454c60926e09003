-- What a worker takes, makes and reports.
use Rattle.std.specs.Prelude.{slice_index_or as get_or, ◌≡◌, ℕ, ◌+◌, ◌<◌, ◌≤◌, List, [], ◌++◌, length, Option, Some, ◌⊎◌, All, Contains, map, true, slice_get}
use Rattle.std.specs.List.{sum_by}
use Rattle.std.specs.Option.{option_map_or, MatchOption}
use Rattle.atomic_table.specs.Seated.{TableId}
use Rattle.branch_core.specs.declared.report.Report.{Report}
use Rattle.branch_core.specs.Proper.{AreProper}
use Rattle.branch_core.specs.Solved.{report_of}
use Rattle.plan_rule.specs.declared.job.Job.{Job}
use Rattle.plan_rule.specs.Boxes.{Covers, IsBox}
use Rattle.plan_rule.specs.Choices.{Choices, blocks, count}
use Rattle.plan_rule.specs.Fronts.{HasCodes}
use Rattle.plan_rule.specs.Jobs.{IsJob, lower, upper}
use Rattle.plan_rule.specs.Paths.{IsInRegion}
use Rattle.plan_rule.specs.Plans.{IsBest}
use Rattle.plan_rule.specs.RegionBoxes.{region_box}
use Rattle.plan_rule.specs.Regions.{IsRegionPart}
use Rattle.plan_rule.specs.Reports.{IsBar, IsReached, IsLeast}
use Rattle.refutation_log.specs.declared.record.Record.{Record}
use Rattle.refutation_log.specs.Logs.{AreSteps}
use Rattle.refutation_log.specs.Steps.{result_of}
use Rattle.steal_rule.specs.Deques.{Owned, Reaching}
use Rattle.nogood_store.specs.Hits.{PlainStore, last_tag}
use Rattle.branch_workers.specs.Stock.{IsPostable, IsStocked}
use Rattle.log_merge.specs.Merging.{RefutesJob}
use Rattle.log_merge.specs.Tiles.{has, times}
use Rattle.branch_workers.specs.declared.worker.Worker.{Worker}

-- the jobs that reaches have stolen, weighed
abbrev pub robbed : (Job → ℕ) → List Reaching → ℕ
robbed h reaches = sum_by (λ (r : Reaching). sum_by h r.stolen) reaches

-- a job that there may be, weighed
abbrev pub weight_of_job : (Job → ℕ) → Option Job → ℕ
weight_of_job h job = option_map_or h job 0

abbrev pub steals_of : List Reaching → ℕ
steals_of reaches = sum_by (λ (r : Reaching). r.steals) reaches

abbrev pub stolen_of : List Reaching → ℕ
stolen_of reaches = robbed (λ _. 1) reaches

-- what stays of a reach: its deque, its number, its parts
abbrev pub place_of : Reaching → TableId × ℕ × ℕ
place_of r = (r.deque, r.number, r.parts)

-- the job's region is a part with a range
abbrev pub IsSplit : Choices → Job → Type 0
IsSplit c job = (codes : List ℕ) × (lo : ℕ) × (hi : ℕ) × IsRegionPart c job codes lo hi × (length codes < blocks c)

-- a block has no code
abbrev pub LacksCodes : Choices → Type 0
LacksCodes c = (b : ℕ) × (b < blocks c) × (count c b ≡ 0)

-- the region has no plan, though each block has a code
abbrev pub IsEmptyRegion : Choices → Job → Type 0
IsEmptyRegion c job = ((p : List ℕ) → IsInRegion c job p → ⊥) × HasCodes c

-- the region is a part, or some block has no code
abbrev pub IsKnown : Choices → Job → Type 0
IsKnown c job = ((codes : List ℕ) × (lo : ℕ) × (hi : ℕ) × IsRegionPart c job codes lo hi) ⊎ LacksCodes c

-- a half of a job whose region is a part with a range
abbrev pub IsHalf : Choices → Job → Type 0
IsHalf c job = (whole : Job) × IsJob whole × (whole.length < 32) × IsSplit c whole × ((job ≡ lower whole) ⊎ (job ≡ upper whole))

-- a job that a worker may make
abbrev pub IsMade : Choices → ℕ → Job → Type 0
IsMade c split job = (job.length ≤ split) × IsHalf c job

-- the list has grown by elements with a property
abbrev pub Grown : {X : Type 0} → (X → Type 0) → List X → List X → Type 0
Grown P old new = (more : List _) × (new ≡ old ++ more) × All P more

abbrev pub job_of_report : Report → Job
job_of_report r = r.job

-- by path number, what the worker has pushed and reported is the job more than before
abbrev pub HandlesJob : Job → Worker → Worker → Type 0
HandlesJob job old new =
    (x : ℕ) → sum_by (has x) new.owner.pushed + times x (map job_of_report new.reports)
    ≡ has x job + sum_by (has x) old.owner.pushed + times x (map job_of_report old.reports)

-- the report says what it should
pub record IsSound (c : Choices) (r : Report) : Type 0 where
  pub reached : IsReached c (report_of r)
  pub least : IsLeast c (report_of r)
  pub bar : IsBar c r.seen

-- where an owner stays: its deque and its number
abbrev pub IsSameOwner : Owned → Owned → Type 0
IsSameOwner old new = (new.deque ≡ old.deque) × (new.number ≡ old.number)

-- a job is being halved: the upper halves are pushed, and the part is still in hand
pub record IsInHand (c : Choices) (split : ℕ) (job : Job) (old now : Owned) (part : Job) : Type 0 where
  pub job_is : IsJob part
  pub same : IsSameOwner old now
  pub popped : now.popped ≡ old.popped
  pub made : Grown (IsMade c split) old.pushed now.pushed
  pub part_is : (part ≡ job) ⊎ IsMade c split part
  pub count : (x : ℕ) → sum_by (has x) now.pushed + has x part ≡ has x job + sum_by (has x) old.pushed

-- a round of tries: the reaches below i were found empty, and those from i on are as they were
pub record IsTried (old now : List Reaching) (left_old left i : ℕ) : Type 0 where
  pub size : length now ≡ length old
  pub same : map place_of now ≡ map place_of old
  pub robbed_is : (h : Job → ℕ) → robbed h now ≡ robbed h old
  pub steals : steals_of now + left ≡ steals_of old + left_old
  pub found : (k : ℕ) (d : Reaching) → k < i → ((get_or now k d).empty ≡ true) × ((get_or now k d).steals ≡ (get_or old k d).steals + 1)
  pub rest : (k : ℕ) (d : Reaching) → i ≤ k → get_or now k d ≡ get_or old k d
  pub fewer : left ≤ left_old

-- each reach has made at most n more steals than all have stolen jobs
abbrev pub KeepsPace : ℕ → List Reaching → Type 0
KeepsPace n reaches = All (λ (r : Reaching). r.steals ≤ stolen_of reaches + n) reaches

-- a job was popped or stolen, or there was none
pub record IsNext (owner owner' : Owned) (reaches reaches' : List Reaching) (left left' : ℕ) (job : Option Job) : Type 0 where
  pub same : IsSameOwner owner owner'
  pub pushed : owner'.pushed ≡ owner.pushed
  pub places : map place_of reaches' ≡ map place_of reaches
  pub taken : (h : Job → ℕ) → sum_by h owner'.popped + robbed h reaches' ≡ sum_by h owner.popped + robbed h reaches + weight_of_job h job
  pub steals : steals_of reaches' + left' ≡ steals_of reaches + left
  pub pace : MatchOption job (KeepsPace 1 reaches') (λ _. KeepsPace 0 reaches')

-- the worker's own deque was found empty, and so was each other deque; or no steal is left
pub record IsIdle (owner : Owned) (reaches : List Reaching) (left : ℕ) : Type 0 where
  pub own : owner.idle ≡ true
  pub others : (left ≡ 0) ⊎ All (λ (r : Reaching). (r.empty ≡ true) × (0 < r.steals)) reaches

-- the job was popped or stolen since: no weight of it is above the weight of all that was
abbrev pub IsTakenSince : Owned → Owned → List Reaching → Job → Type 0
IsTakenSince old owner reaches job = (h : Job → ℕ) → sum_by h old.popped + h job ≤ sum_by h owner.popped + robbed h reaches

-- how many steals a worker may make
abbrev pub may_steal : ℕ
may_steal = 2097152

-- what a worker keeps between two jobs
pub record IsWorking (c : Choices) (split : ℕ) (old owner : Owned) (first reaches : List Reaching) (reports : List Report) (left : ℕ) : Type 0 where
  pub same : IsSameOwner old owner
  pub places : map place_of reaches ≡ map place_of first
  pub made : Grown (IsMade c split) old.pushed owner.pushed
  pub count : (x : ℕ) → sum_by (has x) old.popped + times x (map job_of_report reports) + sum_by (has x) owner.pushed
      ≡ sum_by (has x) owner.popped + robbed (has x) reaches + sum_by (has x) old.pushed
  pub reported : All (λ r. IsSound c r × (IsTakenSince old owner reaches r.job ⊎ IsMade c split r.job)) reports
  pub since : (h : Job → ℕ) → sum_by h old.popped ≤ sum_by h owner.popped + robbed h reaches
  pub pace : KeepsPace 0 reaches
  pub steals : steals_of reaches + left ≡ may_steal

-- what a worker has done
pub record HasWorked (c : Choices) (split : ℕ) (old owner : Owned) (first reaches : List Reaching) (reports : List Report) : Type 0 where
  pub made : Grown (IsMade c split) old.pushed owner.pushed
  pub count : (x : ℕ) → sum_by (has x) old.popped + times x (map job_of_report reports) + sum_by (has x) owner.pushed
      ≡ sum_by (has x) owner.popped + robbed (has x) reaches + sum_by (has x) old.pushed
  pub reported : All (λ r. IsSound c r × (IsTakenSince old owner reaches r.job ⊎ IsMade c split r.job)) reports
  pub pace : KeepsPace 1 reaches
  pub tried : (steals_of reaches ≡ may_steal) ⊎ All (λ (r : Reaching). (r.empty ≡ true) × (0 < r.steals)) reaches

-- what a report's record refutes: each plan of the job's region, by a box that contains the region's; where a block has
-- no code, every plan
pub record IsProved (c : Choices) (log : List Record) (r : Report) : Type 0 where
  pub number : (r.refutation ≡ 0) ⊎ (r.refutation < length log)
  pub shown : (p : List ℕ) → IsInRegion c r.job p → RefutesJob c log r.refutation r.job
  pub part : (codes : List ℕ) (lo hi : ℕ) → IsRegionPart c r.job codes lo hi
      → (e : Record) × (slice_get log r.refutation ≡ Some e) × Covers c (result_of c e) (region_box c codes lo hi)
  pub empty : LacksCodes c → (e : Record) × (slice_get log r.refutation ≡ Some e) × (result_of c e ≡ [])

-- each record of the log is proper and a step against the best plan, each report has its record, and each report's bar
-- was seen
pub record IsLogged (c : Choices) (log : List Record) (seen : List ℕ) (reports : List Report) : Type 0 where
  pub steps : (t : Option (List ℕ)) → IsBest c t → AreSteps c t log
  pub proper : AreProper c 0 log
  pub proved : All (IsProved c log) reports
  pub seen_is : All (λ (r : Report). Contains seen r.seen) reports

-- the log has grown by proper steps against the best plan, and what was seen is still seen
pub record IsGrownLog (c : Choices) (old new : List Record) (old_seen seen : List ℕ) : Type 0 where
  pub grown : (more : List Record) × (new ≡ old ++ more)
  pub kept : (k : ℕ) → Contains old_seen k → Contains seen k
  pub steps : (t : Option (List ℕ)) → IsBest c t → AreSteps c t old → AreSteps c t new
  pub proper : AreProper c (length old) new

-- the report has its record in the log, and its bar was seen
pub record HasRecord (c : Choices) (log : List Record) (seen : List ℕ) (r : Report) : Type 0 where
  pub proved : IsProved c log r
  pub seen_is : Contains seen r.seen

-- what a search of a job has done to a worker's log, its store and what it has seen
pub record HasSearched (c : Choices) (old new : List Record) (before after : PlainStore) (seen seen' : List ℕ) (r : Report) : Type 0 where
  pub grown : IsGrownLog c old new seen seen'
  pub reported : HasRecord c new seen' r
  pub stocked : IsStocked c new after seen'
  -- where a box was stored, the record of the last one may be posted
  pub postable : length before.nogoods < length after.nogoods → (tag : ℕ) → last_tag after.nogoods ≡ Some tag → IsPostable c r.seen new tag

-- a worker that has not begun: it has reported, logged and stored nothing, and its reaches have made no steal
pub record IsStart (w : Worker) : Type 0 where
  pub number : w.number < 16
  pub reports : w.reports ≡ []
  pub log : w.log ≡ []
  pub store : (w.store.nogoods ≡ []) × (w.store.prefix ≡ [])
  pub reaches : All (λ (r : Reaching). (r.steals ≡ 0) × (r.stolen ≡ [])) w.reaches.items

-- what stays of a worker: its number, the board of its seat, the deque of its owner, and the places of its reaches in their order
pub record IsSamePlace (old new : Worker) : Type 0 where
  pub number : new.number ≡ old.number
  pub seat : new.seat.place ≡ old.seat.place
  pub owner : IsSameOwner old.owner new.owner
  pub reaches : map place_of new.reaches.items ≡ map place_of old.reaches.items

-- a worker between two jobs, or after want of memory
pub record IsAtWork (c : Choices) (split : ℕ) (old now : Worker) (left : ℕ) : Type 0 where
  pub place : IsSamePlace old now
  pub working : IsWorking c split old.owner now.owner old.reaches.items now.reaches.items now.reports left
  pub logged : IsLogged c now.log now.seat.seen now.reports
  pub stocked : IsStocked c now.log now.store now.seat.seen
