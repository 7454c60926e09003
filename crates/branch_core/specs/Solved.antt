-- What the search of a job promises.
use Rattle.std.specs.Prelude.{◌≡◌, ℕ, ◌+◌, ◌<◌, List, [], Some, length, slice_get}
use Rattle.plan_rule.specs.declared.job.Job.{Job}
use Rattle.plan_rule.specs.Choices.{Choices, blocks, count}
use Rattle.plan_rule.specs.Boxes.{Covers, IsBox}
use Rattle.plan_rule.specs.Paths.{IsInRegion}
use Rattle.plan_rule.specs.Regions.{IsRegionPart}
use Rattle.plan_rule.specs.RegionBoxes.{region_box}
use Rattle.plan_rule.specs.Reports.{JobReport, IsBar, IsReached, IsLeast}
use Rattle.refutation_log.specs.declared.record.Record.{Record}
use Rattle.refutation_log.specs.Steps.{result_of}
use Rattle.nogood_store.specs.declared.nogood.Nogood.{Nogood}
use Rattle.branch_kernel.specs.States.{State}
use Rattle.branch_kernel.specs.Clean.{StoreSettles}
use Rattle.branch_kernel.specs.Growth.{Ends}
use Rattle.branch_core.specs.declared.report.Report.{Report}
use Rattle.branch_core.specs.Hits.{GainsOneCiting, HasNoHit, IsFirstHit}
use Rattle.branch_core.specs.Beaten.{exact_box, IsBeaten}

-- the report without its record
abbrev pub report_of : Report → JobReport
report_of r = record { job = r.job; best = r.best; seen = r.seen }

-- a plan lies in the region, or some block has no code
abbrev pub IsSolvable : Choices → Job → Type 0
IsSolvable c job = ((plan : List ℕ) → IsInRegion c job plan → ⊥) → (b : ℕ) × (b < blocks c) × (count c b ≡ 0)

-- the job of all path numbers
abbrev pub root : Job
root = record { front = 0; length = 0 }

-- the record's result is a box, and contains the box of the region; it is the empty box where some block has no code
pub record IsRefutation (c : Choices) (job : Job) (e : Record) : Type 0 where
  pub box : IsBox c (result_of c e)
  pub part : (codes : List ℕ) (lo hi : ℕ) → IsRegionPart c job codes lo hi → Covers c (result_of c e) (region_box c codes lo hi)
  pub empty : (b : ℕ) → b < blocks c → count c b ≡ 0 → result_of c e ≡ []

-- the report on a job, and what its search did to the bar, the log and the store
pub record IsSolved (c : Choices) (job : Job) (old new : State) (r : Report) : Type 0 where
  pub job_is : r.job ≡ job
  -- the best is a plan of the region within reach of the bar
  pub reached : IsReached c (report_of r)
  -- the bar as the search ends
  pub seen : r.seen ≡ new.bar
  pub is_bar : IsBar c r.seen
  -- where each plan of a stored box was above the bar at the start, each plan of the region is settled
  pub least : StoreSettles c old → IsLeast c (report_of r)
  -- the log and the store as they end
  pub ends : Ends c old new
  -- the last record refutes the region
  pub last : r.refutation + 1 ≡ length new.log
  pub refutes : (e : Record) × (slice_get new.log r.refutation ≡ Some e) × IsRefutation c job e

-- where the prefix of the job's region has a hit, the log gains one record, which cites the first hit; where it has
-- none and a bound of the prefix is above the bar at the start, the log gains one record
abbrev pub MakesOneRecord : Choices → Job → ℕ → List Nogood → List Record → List Record → Type 0
MakesOneRecord c job bar store old new =
    (codes : List ℕ) (lo hi : ℕ) → IsRegionPart c job codes lo hi
    → ((place tag : ℕ) → IsFirstHit store codes place tag → GainsOneCiting old new tag)
    × (HasNoHit store codes → IsBeaten c (exact_box 0 codes) bar → length new ≡ length old + 1)
