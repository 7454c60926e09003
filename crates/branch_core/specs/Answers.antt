-- The records of many searches, and the best of their plans.
use Rattle.std.specs.Prelude.{◌≡◌, ℕ, ◌<◌, ◌≤◌, List, Option, length, Contains}
use Rattle.plan_rule.specs.Choices.{Choices}
use Rattle.plan_rule.specs.Reports.{JobReport, AreReports, IsBestOf}
use Rattle.refutation_log.specs.Steps.{IsStepAt}
use Rattle.branch_kernel.specs.States.{State}
use Rattle.branch_kernel.specs.Growth.{Ends}

-- where jobs tile and each report says what it should, the new records of each search are steps against the best plan
abbrev pub RecordsAreSteps : Choices → Type 0
RecordsAreSteps c =
    (reports : List JobReport) (t : Option (List ℕ)) → AreReports c reports → IsBestOf c reports t
    → (r : JobReport) (old new : State) → Contains reports r → new.bar ≡ r.seen → new.best ≡ r.best → Ends c old new
    → (i : ℕ) → length old.log ≤ i → i < length new.log → IsStepAt c t new.log i
