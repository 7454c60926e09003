use Rattle.std.proofs.Common.{◌∙◌, ap}
use Rattle.shape_exact.specs.Yards.{PlainYard}
use Rattle.code_table.proofs.ReadLaws.{read_at}
use Rattle.log_checker.proofs.NearPieceLaws.{met_at}
use Rattle.log_checker.proofs.near.meets_at.Goals as goal

pub returns : goal.returns
returns c =
    met_at c.args.codes.now c.args.block c.args.piece c.args.place c.index-pieces-piece.result c.meets_piece.result c.requires.block
    (read_at c.args.codes.now.fixed _ c.args.piece c.index-pieces-piece.result
    (c.fixed-pieces.ensures.value ∙ ap (λ (y : PlainYard). y.fixed) c.yard.ensures.value) c.requires.piece c.index-pieces-piece.is)
    c.meets_piece.ensures
