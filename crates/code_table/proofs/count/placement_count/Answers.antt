use Rattle.code_table.specs.Stands.{sum_to}
use Rattle.std.proofs.Common.{◌∙◌, ap, sym, length, arith}
use Rattle.code_table.proofs.StandLaws.{placements-of, length-placements}
use Rattle.code_table.proofs.ReadLaws.{read_at}
use Rattle.code_table.proofs.count.placement_count.Goals as goal

pub returns : goal.returns
returns c =
    let at = read_at c.args.yard.now.blocks _ c.args.block c.index-blocks-block.result c.blocks-blocks.ensures.value c.requires c.index-blocks-block.is in
    c.loop-k.invariant.0 ∙ ap (sum_to c.args.yard.now c.index-blocks-block.result) (omega arith)
    ∙ sym (ap length (placements-of c.args.yard.now c.args.block c.index-blocks-block.result at)
    ∙ length-placements c.args.yard.now c.index-blocks-block.result)
