-- What a search divides.
use Rattle.std.specs.Prelude.{ℕ, ◌<◌, ◌≤◌, List}
use Rattle.plan_rule.specs.declared.literal.Literal.{Literal}
use Rattle.plan_rule.specs.declared.job.Job.{Job}
use Rattle.plan_rule.specs.Choices.{Choices, blocks}
use Rattle.plan_rule.specs.Plans.{code_of, IsFeasible}
use Rattle.plan_rule.specs.Boxes.{Holds, IsBox, LeavesFree}
use Rattle.plan_rule.specs.Paths.{IsInRegion}
use Rattle.refutation_log.specs.Steps.{IsRange}
use Rattle.branch_kernel.specs.Boxes.{IsClear}

-- a side, and a range of a block that it leaves free
pub record IsPlace (c : Choices) (side : List Literal) (b lo hi : ℕ) : Type 0 where
  pub side_is : IsBox c side
  pub block : b < blocks c
  pub free : LeavesFree side b
  pub range : IsRange c b lo hi

-- what a search divides: a clear side, and a range of a block that it leaves free
pub record IsNode (c : Choices) (job : Job) (side : List Literal) (b lo hi : ℕ) : Type 0 where
  pub side_is : IsBox c side
  pub clear : IsClear c side
  pub block : b < blocks c
  pub free : LeavesFree side b
  pub range : IsRange c b lo hi
  pub region : (q : List ℕ) → IsFeasible c q → Holds side q → lo ≤ code_of q b → code_of q b < hi
      → IsInRegion c job q

-- a clear box whose feasible plans are plans of the region
pub record IsOpenBox (c : Choices) (job : Job) (part : List Literal) : Type 0 where
  pub part_is : IsBox c part
  pub clear : IsClear c part
  pub region : (q : List ℕ) → IsFeasible c q → Holds part q → IsInRegion c job q
