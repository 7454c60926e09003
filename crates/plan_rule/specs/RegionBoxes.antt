-- The box of a job's region.
use Rattle.std.specs.Prelude.{ℕ, suc, ◌==◌, ◌&&◌, List, [], ◌∷◌, ◌++◌, length, if◌then◌else◌, ◌↔◌}
use Rattle.plan_rule.specs.declared.job.Job.{Job}
use Rattle.plan_rule.specs.declared.literal.Literal.{Literal}
use Rattle.plan_rule.specs.Choices.{Choices, count}
use Rattle.plan_rule.specs.Plans.{IsPlan}
use Rattle.plan_rule.specs.Paths.{IsInRegion}
use Rattle.plan_rule.specs.Boxes.{exact, Holds}
use Rattle.plan_rule.specs.Regions.{IsRegionPart}

-- the literals of the codes of the blocks from b on; a block with one code has none
abbrev pub exact_literals : Choices → ℕ → List ℕ → List Literal
exact_literals c b [] = []
exact_literals c b (code ∷ codes) = (if count c b == 1 then [] else exact b code ∷ []) ++ exact_literals c (suc b) codes

-- the literal of the range of a block; none where it is empty or whole
abbrev pub range_literal : Choices → ℕ → ℕ → ℕ → List Literal
range_literal c b lo hi = if hi == 0 then [] else (if (lo == 0) && (hi == count c b) then [] else record { block = b; lo = lo; hi = hi } ∷ [])

-- the box of a part of a region
abbrev pub region_box : Choices → List ℕ → ℕ → ℕ → List Literal
region_box c codes lo hi = exact_literals c 0 codes ++ range_literal c (length codes) lo hi

-- the box of a job's region holds the plans of the region, and no other plan
abbrev pub RegionBoxHolds : Choices → Job → Type 0
RegionBoxHolds c job =
    (codes : List ℕ) (lo hi : ℕ) → IsRegionPart c job codes lo hi
    → (plan : List ℕ) → IsPlan c plan → Holds (region_box c codes lo hi) plan ↔ IsInRegion c job plan
