-- What is reported of a job, and the best of a list of reports.
use Rattle.std.specs.Prelude.{◌≡◌, ℕ, ◌-◌, ◌^◌, ◌<◌, ◌≤◌, List, Option, Some, None, ◌⊎◌, All, Contains, map}
use Rattle.plan_rule.specs.declared.job.Job.{Job}
use Rattle.plan_rule.specs.Choices.{Choices}
use Rattle.plan_rule.specs.Plans.{IsFeasible, IsBefore, IsBest}
use Rattle.plan_rule.specs.Paths.{key, IsInRegion, Tile}

-- the job, the best plan found in its region, and the bar that was seen at the end
pub record JobReport : Type 0 where
  pub job : Job
  pub best : Option (List ℕ)
  pub seen : ℕ

-- the greatest u64, or the key of a feasible plan
abbrev pub IsBar : Choices → ℕ → Type 0
IsBar c bar = (bar ≡ 2 ^ 64 - 1) ⊎ ((p : List ℕ) × IsFeasible c p × (key c p ≡ bar))

-- what is reported as the best is a feasible plan of the region, and its key is not below the bar
abbrev pub IsReached : Choices → JobReport → Type 0
IsReached c r = (p : List ℕ) → r.best ≡ Some p → IsFeasible c p × IsInRegion c r.job p × (r.seen ≤ key c p)

-- each feasible plan of the region has a key above the bar, or is not before the reported best
abbrev pub IsLeast : Choices → JobReport → Type 0
IsLeast c r =
    (q : List ℕ) → IsFeasible c q → IsInRegion c r.job q
    → (r.seen < key c q) ⊎ ((p : List ℕ) × (r.best ≡ Some p) × (IsBefore c q p → ⊥))

-- the reported best that no other reported best is before; none where no report has one
abbrev pub IsBestOf : Choices → List JobReport → Option (List ℕ) → Type 0
IsBestOf c reports None = All (λ r. r.best ≡ None) reports
IsBestOf c reports (Some p) =
    ((r : JobReport) × Contains reports r × (r.best ≡ Some p))
    × ((r : JobReport) (m : List ℕ) → Contains reports r → r.best ≡ Some m → IsBefore c m p → ⊥)

-- the jobs tile, and each report says what it should
pub record AreReports (c : Choices) (reports : List JobReport) : Type 0 where
  pub tile : Tile (map (λ r. r.job) reports)
  pub reached : All (IsReached c) reports
  pub least : All (IsLeast c) reports
  pub bars : All (λ r. IsBar c r.seen) reports

-- the best of the reports of jobs that tile is the best plan
abbrev pub ReportsGiveBest : Choices → Type 0
ReportsGiveBest c =
    (reports : List JobReport) (t : Option (List ℕ)) → AreReports c reports → IsBestOf c reports t → IsBest c t
