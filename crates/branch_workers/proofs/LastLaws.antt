-- The word with which the board ends is the key of the best plan.
use Rattle.std.proofs.Common.{◌≡◌, ℕ, zero, suc, ◌<◌, List, [], ◌∷◌, length, map, get_or, refl, arith, Contains}
use Rattle.branch_core.specs.declared.report.Report.{Report}
use Rattle.branch_core.specs.Solved.{report_of}
use Rattle.plan_rule.specs.Reports.{JobReport}

-- a report that was told is one of the list
pub told_of : (reports : List Report) (r : JobReport) (k : ℕ) → k < length (map report_of reports) → get_or (map report_of reports) k r ≡ r → (s : Report) × Contains reports s × (report_of s ≡ r)
told_of [] r k l e = absurd (omega arith)
told_of (s ∷ reports) r zero l e = (s, (0, omega arith, refl), e)
told_of (s ∷ reports) r (suc k) l e = let (t, (j, m, i), is) = told_of reports r k (omega arith) e in (t, (suc j, omega arith, i), is)
