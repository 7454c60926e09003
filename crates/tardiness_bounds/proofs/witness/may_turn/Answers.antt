use Rattle.std.proofs.Common.{◌≡◌, false, get_or, sym, ap, ◌∙◌}
use Rattle.std.proofs.lemmas.Option.{same_Some}
use Rattle.shape_exact.specs.Yards.{PlainYard}
use Rattle.shape_exact.specs.declared.block.Block.{Block}
use Rattle.code_table.proofs.ReadLaws.{allowed_at, read_at}
use Rattle.tardiness_bounds.proofs.witness.may_turn.Goals as goal

pub returns : goal.returns
returns c = λ b at.
    let same = c.blocks-blocks.ensures.value ∙ ap (λ (y : PlainYard). y.blocks) (c.yard.ensures.value ∙ c.codes.ensures) in
    let here = read_at c.args.tables.now.yard.blocks _ c.args.block c.index-blocks-block.result same c.requires.block c.index-blocks-block.is in
    let e : c.index-blocks-block.result ≡ b = same_Some c.index-blocks-block.result b (sym here ∙ at) in
    ap (λ (b : Block). get_or b.turns c.args.turn false) (sym c.index-blocks-block.is ∙ e) ∙ sym (allowed_at b.turns c.args.turn)
