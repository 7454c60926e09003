use Rattle.std.proofs.Common.{map, take}
use Rattle.branch_core.specs.Solved.{report_of}
use Rattle.plan_rule.specs.Reports.{IsBestOf}
use Rattle.plan_rule.specs.Yards.{choices}
use Rattle.branch_workers.proofs.best.best_of.Given as goal

abbrev pub invariant-loop-report : goal.invariant-loop-report
invariant-loop-report l = IsBestOf (choices l.codes) (map report_of (take l.report-index l.reports)) l.best
