use Rattle.plan_rule.specs.Yards.{choices}
use Rattle.branch_kernel.specs.Boxes.{IsFront}
use Rattle.branch_core.proofs.front.front_side.Given as goal

-- the blocks so far are fixed
abbrev pub invariant-loop-block : goal.invariant-loop-block
invariant-loop-block l = IsFront (choices l.codes) l.front l.block l.side
