use Rattle.std.proofs.Common.{◌<◌, ◌∙◌, ap, sym, length, arith}
use Rattle.std.proofs.lemmas.Option.{same_Some}
use Rattle.common_lists.proofs.ListLaws.{element_at}
use Rattle.code_table.proofs.ReadLaws.{read_at}
use Rattle.code_table.proofs.codes.Codes.shape.Goals as goal

pub bounds-shapes-turn : goal.bounds-shapes-turn
bounds-shapes-turn c =
    let (b, at) = element_at c.args.self.now.blocks c.args.block c.requires.block in
    let t = c.table.ensures.is b at in let e = ap length c.as_slice-shapes.ensures.value in omega (arith, t.turns)

pub returns : goal.returns
returns c = λ b at.
    let t = c.table.ensures.is b at in
    let l : c.args.turn < length c.table.result.now.shapes.items = omega (arith, t.turns) in
    let here = read_at c.table.result.now.shapes.items _ c.args.turn c.index-shapes-turn.result c.as_slice-shapes.ensures.value l c.index-shapes-turn.is in
    same_Some _ _ (sym here ∙ t.shapes c.args.turn c.requires.turn)
