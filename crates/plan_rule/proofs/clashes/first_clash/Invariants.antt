use Rattle.std.proofs.Common.{ℕ, ◌<◌}
use Rattle.plan_rule.specs.Pairs.{ClashesAfter}
use Rattle.plan_rule.specs.Yards.{choices}
use Rattle.plan_rule.proofs.clashes.first_clash.Given as goal

-- no block so far clashes with a later one
abbrev pub invariant-loop-block : goal.invariant-loop-block
invariant-loop-block l = (k : ℕ) → k < l.block → ClashesAfter (choices l.codes) l.plan k → ⊥
