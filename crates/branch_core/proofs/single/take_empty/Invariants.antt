use Rattle.std.proofs.Common.{◌≡◌, ◌<◌, ◌≤◌, ◌-◌, ℕ}
use Rattle.plan_rule.specs.Choices.{blocks, count}
use Rattle.plan_rule.specs.Yards.{choices}
use Rattle.branch_core.proofs.single.take_empty.Given as goal

abbrev pub invariant-loop-block : goal.invariant-loop-block
invariant-loop-block l = (b : ℕ) × (l.block ≤ b) × (b < blocks (choices l.codes)) × (count (choices l.codes) b ≡ 0)

abbrev pub decreases-loop-block : goal.decreases-loop-block
decreases-loop-block l = 256 - l.block
