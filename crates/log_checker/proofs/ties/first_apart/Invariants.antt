use Rattle.std.proofs.Common.{ℕ, ◌<◌, ◌≢◌}
use Rattle.plan_rule.specs.Plans.{code_of}
use Rattle.plan_rule.specs.Boxes.{HasExact}
use Rattle.log_checker.proofs.ties.first_apart.Given as goal

-- the other blocks so far are exact to the plan's codes
abbrev pub invariant-loop-other : goal.invariant-loop-other
invariant-loop-other l = (a : ℕ) → a < l.other → a ≢ l.block → HasExact l.side a (code_of l.plan a)
