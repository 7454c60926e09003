use Rattle.std.proofs.Common.{◌≡◌, ℕ, ◌<◌}
use Rattle.plan_rule.specs.Plans.{code_of}
use Rattle.list_schedule.proofs.guard.follows.Given as goal

-- the codes so far are those of the front
abbrev pub invariant-loop-block : goal.invariant-loop-block
invariant-loop-block l = (b : ℕ) → b < l.block → code_of l.list b ≡ code_of l.front b
