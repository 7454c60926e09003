-- The plans of a job's region.
use Rattle.std.specs.Prelude.{◌≡◌, ℕ, ◌+◌, ◌-◌, ◌/◌, ◌<◌, ◌≤◌, List, length, ◌⊎◌, ◌↔◌}
use Rattle.plan_rule.specs.declared.job.Job.{Job}
use Rattle.plan_rule.specs.declared.region.Region.{Region}
use Rattle.plan_rule.specs.declared.region.Region.TheVariants.{Empty, Part}
use Rattle.plan_rule.specs.Choices.{Choices, blocks, count}
use Rattle.plan_rule.specs.Plans.{IsPlan, Extends, code_of}
use Rattle.plan_rule.specs.Paths.{IsInRegion}
use Rattle.plan_rule.specs.Jobs.{lower, upper}

-- the plan begins with these codes, and its code of the next block, where one is left, is in the range
abbrev pub Follows : Choices → List ℕ → ℕ → ℕ → List ℕ → Type 0
Follows c exact lo hi plan =
    Extends exact plan × (length exact < blocks c → (lo ≤ code_of plan (length exact)) × (code_of plan (length exact) < hi))

-- where a range is halved
abbrev pub middle : ℕ → ℕ → ℕ
middle lo hi = lo + (hi - lo) / 2

-- the lower half of the job has the lower half of the range, and the upper half the upper
pub record HaveHalves (c : Choices) (job : Job) (exact : List ℕ) (lo hi : ℕ) : Type 0 where
  pub low : (plan : List ℕ) → IsPlan c plan → IsInRegion c (lower job) plan ↔ Follows c exact lo (middle lo hi) plan
  pub high : (plan : List ℕ) → IsPlan c plan → IsInRegion c (upper job) plan ↔ Follows c exact (middle lo hi) hi plan

-- the codes of the first blocks that the job fixes, and the range of the next block
pub record IsRegionPart (c : Choices) (job : Job) (exact : List ℕ) (lo hi : ℕ) : Type 0 where
  -- the range has at least two codes; it is 0..0 where all blocks are fixed
  pub range : ((length exact < blocks c) × (lo + 2 ≤ hi) × (hi ≤ count c (length exact)))
      ⊎ ((length exact ≡ blocks c) × (lo ≡ 0) × (hi ≡ 0))
  pub some : (plan : List ℕ) × IsInRegion c job plan
  pub plans : (plan : List ℕ) → IsPlan c plan → IsInRegion c job plan ↔ Follows c exact lo hi plan
  pub halves : length exact < blocks c → job.length < 32 → HaveHalves c job exact lo hi

-- the region of a job: no plan at all, or such a part
abbrev pub IsRegion : Choices → Job → Region → Type 0
IsRegion c job Empty = (plan : List ℕ) → IsInRegion c job plan → ⊥
IsRegion c job (Part exact lo hi) = IsRegionPart c job exact lo hi

-- the codes and the range of a job's part are the only ones
abbrev pub HasOnePart : Choices → Job → Type 0
HasOnePart c job =
    (front other : List ℕ) (lo hi low high : ℕ) → IsRegionPart c job front lo hi → IsRegionPart c job other low high
    → (front ≡ other) × (lo ≡ low) × (hi ≡ high)
