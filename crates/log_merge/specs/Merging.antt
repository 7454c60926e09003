-- The records of jobs that follow one another, put together to the record of a job that they make up.
use Rattle.std.specs.Prelude.{◌≡◌, ℕ, ◌+◌, ◌^◌, ◌<◌, ◌≤◌, List, ◌++◌, length, map, drop, slice_get, slice_index_or, Option, Some, ◌⊎◌, All, Contains}
use Rattle.plan_rule.specs.declared.job.Job.{Job}
use Rattle.plan_rule.specs.declared.literal.Literal.{Literal}
use Rattle.plan_rule.specs.Boxes.{IsBox, Holds, LeavesFree, Covers, with_literal}
use Rattle.plan_rule.specs.Choices.{Choices, blocks, count}
use Rattle.plan_rule.specs.Jobs.{IsJob, lower, upper}
use Rattle.plan_rule.specs.Paths.{width, IsChain, IsInRegion}
use Rattle.plan_rule.specs.Plans.{IsPlan, code_of}
use Rattle.refutation_log.specs.declared.record.Record.{Record}
use Rattle.refutation_log.specs.declared.record.Record.TheVariants.{Branch}
use Rattle.refutation_log.specs.Logs.{AreSteps}
use Rattle.refutation_log.specs.Steps.{result_of}
use Rattle.log_merge.specs.Closing.{AllExist}
use Rattle.log_merge.specs.Tiles.{root}
use Rattle.log_merge.specs.declared.merging.Leaf.{Leaf}

-- codes of the first blocks
pub record AreCodesOf (c : Choices) (exact : List ℕ) : Type 0 where
  pub few : length exact ≤ blocks c
  pub codes : (b : ℕ) → b < length exact → code_of exact b < count c b

abbrev pub literal : ℕ → ℕ → ℕ → Literal
literal b lo hi = record { block = b; lo = lo; hi = hi }

-- a range of a block's codes, cut in two, beside a side that leaves the block free
pub record IsHalved (c : Choices) (b lo mid hi : ℕ) (side : List Literal) : Type 0 where
  pub side_is : IsBox c side
  pub block : b < blocks c
  pub free : LeavesFree side b
  pub below : lo < mid
  pub above : mid < hi
  pub codes : hi ≤ count c b

-- the record with this number has a result that covers the box
abbrev pub RefutesBox : Choices → List Record → ℕ → List Literal → Type 0
RefutesBox c log k box = (r : Record) × (slice_get log k ≡ Some r) × Covers c (result_of c r) box

-- the box holds the plans of the job's region, and no other plan
pub record IsBoxOf (c : Choices) (job : Job) (box : List Literal) : Type 0 where
  pub box_is : IsBox c box
  pub inside : (p : List ℕ) → IsPlan c p → Holds box p → IsInRegion c job p
  pub only : (p : List ℕ) → IsInRegion c job p → Holds box p

-- the record with this number has a result that holds each plan of the job's region
abbrev pub RefutesJob : Choices → List Record → ℕ → Job → Type 0
RefutesJob c log k job = (r : Record) × (slice_get log k ≡ Some r) × IsBox c (result_of c r) × ((p : List ℕ) → IsInRegion c job p → Holds (result_of c r) p)

-- the job's region has two plans
abbrev pub HasTwo : Choices → Job → Type 0
HasTwo c job = (p : List ℕ) × (q : List ℕ) × IsInRegion c job p × IsInRegion c job q × (p ≡ q → ⊥)

-- the root, or a half of a job whose region has two plans
abbrev pub IsRootOrHalf : Choices → Job → Type 0
IsRootOrHalf c job = (job ≡ root) ⊎ ((whole : Job) × IsJob whole × (whole.length < 32) × HasTwo c whole × ((job ≡ lower whole) ⊎ (job ≡ upper whole)))

-- both numbers, and no other
abbrev pub AreBoth : ℕ → ℕ → List ℕ → Type 0
AreBoth one two cites = Contains cites one × Contains cites two × All (λ k. (k ≡ one) ⊎ (k ≡ two)) cites

-- the record of a halved job: a Branch whose result is a box of the job's region, and each half of its range a box of a half's;
-- it cites the records of the halves
abbrev pub IsRecordOf : Choices → Job → ℕ → ℕ → Record → Type 0
IsRecordOf c job first second r =
    (b lo mid hi : ℕ) × (side : List Literal) × (cites : List ℕ) × (r ≡ Branch b lo hi side cites) × IsHalved c b lo mid hi side × AreBoth first second cites
    × IsBoxOf c job (result_of c r) × IsBoxOf c (lower job) (with_literal side (literal b lo mid)) × IsBoxOf c (upper job) (with_literal side (literal b mid hi))

-- the leaves from `at` on follow one another from the job's front to the end, and the first is no longer than the job
pub record IsMergeable (c : Choices) (job : Job) (leaves : List Leaf) (at : ℕ) (log : List Record) : Type 0 where
  pub job_is : IsJob job
  pub chain : IsChain job.front (map (λ (l : Leaf). l.job) (drop at leaves)) (2 ^ 32)
  pub deep : (d : Leaf) → job.length ≤ (slice_index_or leaves at d).job.length
  pub jobs : All (λ (l : Leaf). IsJob l.job × IsRootOrHalf c l.job) leaves
  pub shown : All (λ (l : Leaf). RefutesJob c log l.record l.job) leaves

-- the record shows the job's region; the log has grown by steps; the leaves from `next` on follow the job
pub record IsMerged (c : Choices) (job : Job) (leaves : List Leaf) (log log' : List Record) (result next : ℕ) : Type 0 where
  pub shown : RefutesJob c log' result job
  pub grown : (more : List Record) × (log' ≡ log ++ more)
  pub steps : (t : Option (List ℕ)) → AreSteps c t log → AreSteps c t log'
  pub exist : AllExist c log → AllExist c log'
  pub chain : IsChain (job.front + width job) (map (λ (l : Leaf). l.job) (drop next leaves)) (2 ^ 32)
