use Rattle.std.proofs.Common.{ℕ, ◌<◌}
use Rattle.plan_rule.specs.Plans.{code_of}
use Rattle.plan_rule.specs.Yards.{choices}
use Rattle.plain_search.proofs.search.is_clear.Given as goal

-- no clash so far
abbrev pub invariant-loop-other : goal.invariant-loop-other
invariant-loop-other l = (a : ℕ) → a < l.other → (choices l.codes).Clash a (code_of l.front a) l.block l.code → ⊥
