use Rattle.std.proofs.Common.{ℕ, ◌<◌}
use Rattle.plan_rule.specs.Choices.{count}
use Rattle.plan_rule.specs.Yards.{choices}
use Rattle.branch_workers.proofs.regions.has_codes.Given as goal

abbrev pub invariant-loop-block : goal.invariant-loop-block
invariant-loop-block l = (b : ℕ) → b < l.block → 0 < count (choices l.codes) b
