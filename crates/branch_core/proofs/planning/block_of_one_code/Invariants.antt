use Rattle.std.proofs.Common.{◌≡◌, ◌<◌, ◌≤◌, ◌-◌, ℕ}
use Rattle.plan_rule.specs.Choices.{blocks, count}
use Rattle.plan_rule.specs.Yards.{choices}
use Rattle.branch_core.proofs.planning.block_of_one_code.Given as goal

-- a block with one code comes here or later
abbrev pub invariant-loop-block : goal.invariant-loop-block
invariant-loop-block l = (b : ℕ) × (l.block ≤ b) × (b < blocks (choices l.codes)) × (count (choices l.codes) b ≡ 1)

abbrev pub decreases-loop-block : goal.decreases-loop-block
decreases-loop-block l = 256 - l.block
