use Rattle.std.proofs.Common.{length, ap, ◌∙◌, arith}
use Rattle.shape_exact.specs.Yards.{PlainYard}
use Rattle.tardiness_bounds.proofs.ClashLaws.{footprint_piece, footprint_turned}
use Rattle.tardiness_bounds.proofs.obstacles.footprint_at.Goals as goal

pub returns-then-number-turned : goal.returns-then-number-turned
returns-then-number-turned c =
    let n = ap length (c.blocks-2.ensures.value ∙ ap (λ (y : PlainYard). y.blocks) c.yard-yard.ensures.value) in
    footprint_turned c.args.codes.now c.args.number c.shape.result.now (let l = c.if-number-turned.true in omega arith) c.shape.ensures

pub returns-else-number-turned : goal.returns-else-number-turned
returns-else-number-turned c =
    footprint_piece c.args.codes.now c.yard-yard.result.now c.blocks-2.result.now c.fixed-pieces.result.now c.args.number _ c.yard-yard.ensures.value
    c.blocks-2.ensures.value c.fixed-pieces.ensures.value c.if-number-turned.false c.requires
