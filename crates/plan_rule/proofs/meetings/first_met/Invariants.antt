use Rattle.std.proofs.Common.{ℕ, ◌<◌}
use Rattle.plan_rule.specs.Choices.{MeetsSome}
use Rattle.plan_rule.specs.Plans.{code_of}
use Rattle.plan_rule.specs.Yards.{choices}
use Rattle.plan_rule.proofs.meetings.first_met.Given as goal

-- no block so far meets a piece
abbrev pub invariant-loop-block : goal.invariant-loop-block
invariant-loop-block l = (a : ℕ) → a < l.block → MeetsSome (choices l.codes) a (code_of l.plan a) → ⊥
