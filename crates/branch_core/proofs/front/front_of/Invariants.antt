use Rattle.plan_rule.specs.Yards.{choices}
use Rattle.branch_kernel.specs.Boxes.{IsFront, IsClear}
use Rattle.branch_core.proofs.front.front_of.Given as goal

-- the blocks so far are fixed, without a clash and without a meeting
abbrev pub invariant-loop-index : goal.invariant-loop-index
invariant-loop-index l = IsFront (choices l.codes) l.front l.index l.side × IsClear (choices l.codes) l.side
