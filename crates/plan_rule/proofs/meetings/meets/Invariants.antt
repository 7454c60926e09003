use Rattle.std.proofs.Common.{ℕ, ◌<◌}
use Rattle.plan_rule.specs.Clashes.{MeetsPiece}
use Rattle.plan_rule.proofs.meetings.meets.Given as goal

-- no piece so far is met
abbrev pub invariant-loop-i : goal.invariant-loop-i
invariant-loop-i l = (k : ℕ) → k < l.i → MeetsPiece l.codes l.block l.code k → ⊥
