use Rattle.std.proofs.Common.{ℕ, ◌<◌}
use Rattle.plan_rule.specs.Choices.{count}
use Rattle.plan_rule.specs.Plans.{code_of}
use Rattle.plan_rule.specs.Yards.{choices}
use Rattle.list_schedule.proofs.guard.is_plan.Given as goal

-- the codes so far are below the counts
abbrev pub invariant-loop-block : goal.invariant-loop-block
invariant-loop-block l = (b : ℕ) → b < l.block → code_of l.list b < count (choices l.codes) b
