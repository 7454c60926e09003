use Rattle.std.proofs.Common.{◌+◌, sym, subst, arith}
use Rattle.std.specs.Prelude.{ℕ, Option}
use Rattle.common_lists.specs.Each.{each}
use Rattle.code_table.specs.Costs.{IsLeastCost}
use Rattle.code_table.specs.Stands.{nth_stand}
use Rattle.code_table.proofs.CostLaws.{least_more, least_all}
use Rattle.code_table.proofs.least.least_of.Goals as goal

pub loop-k-preserved : goal.loop-k-preserved
loop-k-preserved c =
    subst (λ (o : Option ℕ). IsLeastCost c.args.block.now (each (c.loop-k.k + 1) (nth_stand c.args.yard.now c.args.block.now)) o)
    (sym c.lesser-least.ensures)
    (least_more c.args.yard.now c.args.block.now c.loop-k.k c.loop-k.least c.stand_cost.result c.loop-k.invariant c.stand_cost.ensures)

pub returns : goal.returns
returns c = least_all c.args.yard.now c.args.block.now c.loop-k.k c.loop-k.least (omega arith) c.loop-k.invariant
