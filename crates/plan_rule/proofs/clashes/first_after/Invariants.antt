use Rattle.std.proofs.Common.{ℕ, ◌<◌}
use Rattle.plan_rule.specs.Pairs.{ClashIn}
use Rattle.plan_rule.specs.Yards.{choices}
use Rattle.plan_rule.proofs.clashes.first_after.Given as goal

-- no later block so far clashes
abbrev pub invariant-loop-other : goal.invariant-loop-other
invariant-loop-other l = (k : ℕ) → l.block < k → k < l.other → ClashIn (choices l.codes) l.list l.block k → ⊥
