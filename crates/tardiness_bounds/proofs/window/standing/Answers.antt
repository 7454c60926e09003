use Rattle.std.proofs.Common.{◌∙◌, ap, sym, arith, length}
use Rattle.shape_exact.specs.Yards.{PlainYard}
use Rattle.tardiness_bounds.proofs.WindowLaws.{standing_is}
use Rattle.tardiness_bounds.proofs.window.standing.Goals as goal

pub returns-clause-value : goal.returns-clause-value
returns-clause-value c =
    let long = ap length (c.fixed-piece-items.ensures.value ∙ ap (λ (y : PlainYard). y.fixed) c.yard.ensures.value) in
    c.loop-piece.invariant.value ∙ sym (standing_is c.args.codes.now c.args.window.from c.args.window.to c.loop-piece.piece-index (omega arith))
