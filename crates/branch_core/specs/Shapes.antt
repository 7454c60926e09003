-- What the search of one shape of a region promises. No public clause speaks of this.
use Rattle.std.specs.Prelude.{◌≡◌, ℕ, ◌+◌, ◌<◌, List, [], Bool, Result, Ok, IfOk, ◌⊎◌, All, Contains, length}
use Rattle.shape_exact.specs.declared.memory.NoMemory.{NoMemory}
use Rattle.plan_rule.specs.declared.job.Job.{Job}
use Rattle.plan_rule.specs.declared.literal.Literal.{Literal}
use Rattle.plan_rule.specs.Choices.{Choices, blocks, count}
use Rattle.plan_rule.specs.Plans.{IsFeasible}
use Rattle.plan_rule.specs.Boxes.{IsBox, Holds}
use Rattle.plan_rule.specs.Paths.{IsInRegion}
use Rattle.plan_rule.specs.RegionBoxes.{region_box}
use Rattle.refutation_log.specs.declared.record.Record.{Record}
use Rattle.branch_kernel.specs.declared.steps.Shown.{Shown}
use Rattle.branch_kernel.specs.States.{State, IsHeld, IsInside}
use Rattle.branch_kernel.specs.Shows.{IsShown}
use Rattle.branch_kernel.specs.Growth.{Ends}
use Rattle.branch_kernel.specs.Written.{IsBranchWritten}

-- each literal of the box is on a block with one code, or one of the region's box
abbrev pub IsOfRegion : Choices → List Literal → List Literal → Type 0
IsOfRegion c region box = All (λ m. (count c m.block ≡ 1) ⊎ Contains region m) box

-- the last record shows a box with the plans of the region, whose literals are of the region's box
pub record IsRegionShown (c : Choices) (job : Job) (codes : List ℕ) (lo hi : ℕ) (start s : State) (tie : Bool) (number : ℕ) : Type 0 where
  pub box : List Literal
  pub box_is : IsBox c box
  pub last : number + 1 ≡ length s.log
  pub shown : IsShown c start s tie number box
  pub holds : (q : List ℕ) → IsFeasible c q → IsInRegion c job q → Holds box q
  pub of : IsOfRegion c (region_box c codes lo hi) box

-- what a search of a region has done to the state: the bar and the best belong together, and the rest is as it ends
pub record IsEnded (c : Choices) (job : Job) (old new : State) : Type 0 where
  pub ends : Ends c old new
  pub held : IsHeld c new.bar new.best
  pub inside : IsInside c job new.best

-- a search of a region that makes one record
abbrev pub IsSingle : Choices → Job → List ℕ → ℕ → ℕ → State → State → Result Shown NoMemory → Type 0
IsSingle c job codes lo hi old new result =
    IsEnded c job old new
    × IfOk result (λ shown. (length new.log ≡ length old.log + 1) × IsRegionShown c job codes lo hi old new shown.tie shown.number)

-- the record of a block without a code is added, beside no literal and without citations
pub record IsEmptyWritten (c : Choices) (old new : List Record) (shown : Shown) : Type 0 where
  pub block : ℕ
  pub exists : block < blocks c
  pub none : count c block ≡ 0
  pub written : IsBranchWritten (Ok shown.number) old new (record { block = block; lo = 0; hi = 0 }) [] []
