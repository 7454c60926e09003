use Rattle.std.proofs.Common.{◌∙◌, ap, sym}
use Rattle.shape_exact.specs.Yards.{PlainYard}
use Rattle.code_table.proofs.ReadLaws.{read_at, block_limits}
use Rattle.code_table.proofs.SpotLaws.{spot_cost, spot_end}
use Rattle.code_table.proofs.codes.Codes.own_cost.Goals as goal

pub cost_on-requires : goal.cost_on-requires
cost_on-requires c =
    let at = read_at c.args.self.now.blocks _ c.args.block c.index-blocks-block.result
    (c.blocks-blocks.ensures.value ∙ ap (λ (y : PlainYard). y.blocks) c.yard.ensures.value) c.requires.block c.index-blocks-block.is in
    block_limits c.args.self.now c.args.block c.index-blocks-block.result c.yard.ensures.limits at

pub returns-clause-few : goal.returns-clause-few
returns-clause-few c =
    let at = read_at c.args.self.now.blocks _ c.args.block c.index-blocks-block.result
    (c.blocks-blocks.ensures.value ∙ ap (λ (y : PlainYard). y.blocks) c.yard.ensures.value) c.requires.block c.index-blocks-block.is in
    c.cost_on.ensures.few (spot_end c.args.self.now c.args.block c.args.code c.index-blocks-block.result c.spot-end.result c.yard.ensures.limits at
    (c.spot-end.ensures c.index-blocks-block.result at))

pub returns-clause-value : goal.returns-clause-value
returns-clause-value c =
    let at = read_at c.args.self.now.blocks _ c.args.block c.index-blocks-block.result
    (c.blocks-blocks.ensures.value ∙ ap (λ (y : PlainYard). y.blocks) c.yard.ensures.value) c.requires.block c.index-blocks-block.is in
    c.cost_on.ensures.value
    ∙ sym (spot_cost c.args.self.now c.args.block c.args.code c.index-blocks-block.result c.spot-end.result c.yard.ensures.limits at
    (c.spot-end.ensures c.index-blocks-block.result at))
