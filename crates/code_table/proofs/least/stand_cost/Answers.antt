use Rattle.std.proofs.Common.{◌∙◌}
use Rattle.code_table.proofs.ReadLaws.{stand_of}
use Rattle.code_table.proofs.CostLaws.{least_flat, least_stand}
use Rattle.code_table.proofs.least.stand_cost.Goals as goal

pub returns-then-sums-k : goal.returns-then-sums-k
returns-then-sums-k c = least_flat c.args.yard.now c.args.block.now c.args.sums.now c.args.k c.requires.sums c.requires.k c.if-sums-k.true

pub returns-in_default : goal.returns-in_default
returns-in_default c =
    stand_of c.args.yard.now c.args.block.now c.args.k _ _ _ c.nth_stand-at.ensures.start c.nth_stand-at.ensures.plate c.nth_stand-at.ensures.turn
    ∙ c.in_default.ensures.none c.nth_stand-at.result.turn

pub returns : goal.returns
returns c =
    least_stand c.args.yard.now c.args.block.now c.args.sums.now c.args.k _ _ _ c.in-Some.end _ c.requires.sums c.requires.k c.if-sums-k.false
    c.nth_stand-at.ensures.start c.nth_stand-at.ensures.plate c.nth_stand-at.ensures.turn c.in-Some.ensures.some c.cost_on.ensures.value
