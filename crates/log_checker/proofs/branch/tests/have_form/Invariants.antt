use Rattle.std.proofs.Common.{ℕ, ◌<◌, get_or}
use Rattle.refutation_log.specs.declared.record.Record.{Record}
use Rattle.plan_rule.specs.Yards.{choices}
use Rattle.log_checker.specs.Forms.{HasForm}
use Rattle.log_checker.proofs.branch.tests.have_form.Given as goal

-- the first records have the form of one
abbrev pub invariant-loop-entry : goal.invariant-loop-entry
invariant-loop-entry l = (k : ℕ) (d : Record) → k < l.entry-index → HasForm (choices l.codes) (get_or l.list k d)
