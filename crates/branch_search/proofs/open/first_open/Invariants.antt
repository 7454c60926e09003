use Rattle.std.proofs.Common.{ℕ, ◌<◌}
use Rattle.plan_rule.specs.Boxes.{HasExact}
use Rattle.branch_search.proofs.open.first_open.Given as goal

-- each block so far is set to a code
abbrev pub invariant-loop-block : goal.invariant-loop-block
invariant-loop-block l = (b : ℕ) → b < l.block → (d : ℕ) × HasExact l.part b d
