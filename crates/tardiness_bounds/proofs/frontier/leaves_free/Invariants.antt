use Rattle.std.proofs.Common.{take}
use Rattle.plan_rule.specs.Boxes.{LeavesFree}
use Rattle.tardiness_bounds.specs.Standings.{literals_of}
use Rattle.tardiness_bounds.proofs.frontier.leaves_free.Given as goal

-- none of the blocks so far is this one
abbrev pub invariant-loop-f : goal.invariant-loop-f
invariant-loop-f l = LeavesFree (literals_of (take l.f-index l.list)) l.block
