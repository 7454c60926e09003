use Rattle.std.proofs.Common.{◌+◌, length, sym, ap, ◌∙◌, arith}
use Rattle.std.proofs.lemmas.Result.{err_from_is_err_and}
use Rattle.common_lists.proofs.ListLaws.{element_at}
use Rattle.plan_rule.proofs.CountLaws.{blocks-length}
use Rattle.plan_text.proofs.RowLaws.{read_at}
use Rattle.plan_text.proofs.TurnLaws.{no_line, next_row, row_fault, all_rows, fails_so}
use Rattle.plan_text.proofs.reading.rows_of.Goals as goal

pub returns-in_default : goal.returns-in_default
returns-in_default c =
    let l = c.loop-block in
    let n = blocks-length c.args.codes.now in
    let (b, here) = element_at c.args.codes.now.blocks l.block (omega arith) in
    rw c.from-number.ensures (no_line c.args.codes.now l.block b l.list.items l.rest.now _ here l.invariant (sym c.in_default.ensures.parts))

pub bounds-blocks-block : goal.bounds-blocks-block
bounds-blocks-block c =
    let n = blocks-length c.args.codes.now in
    let same = ap length (c.blocks-blocks.ensures.value ∙ ap (λ y. y.blocks) c.yard.ensures.value) in
    omega arith

pub code_of_line-requires-clause-of : goal.code_of_line-requires-clause-of
code_of_line-requires-clause-of c =
    let same = c.blocks-blocks.ensures.value ∙ ap (λ y. y.blocks) c.yard.ensures.value in
    let n = blocks-length c.args.codes.now in
    let long = ap length same in
    read_at c.blocks-blocks.result.now c.args.codes.now.blocks c.loop-block.block c.index-blocks-block.result same (omega arith) c.index-blocks-block.is

pub returns-in_err-code : goal.returns-in_err-code
returns-in_err-code c =
    let l = c.loop-block in
    let same = c.blocks-blocks.ensures.value ∙ ap (λ y. y.blocks) c.yard.ensures.value in
    let n = blocks-length c.args.codes.now in
    let long = ap length same in
    let here = read_at c.blocks-blocks.result.now c.args.codes.now.blocks l.block c.index-blocks-block.result same (omega arith) c.index-blocks-block.is in
    let p = err_from_is_err_and c.from_residual.result c.from_residual.ensures.1 in
    let fault = rw c.from-number.ensures at (sym c.in_err-code.ensures) in
    rw (p.1, p.2) (fails_so c.in_err-code.field-0.0 _ (row_fault c.args.codes.now l.block c.index-blocks-block.result l.list.items l.rest.now _ here l.invariant
    c.in-Some.line.now c.in-Some.more.now c.in_err-code.field-0.0 (sym c.in-Some.ensures.parts) fault))

pub loop-block-preserved : goal.loop-block-preserved
loop-block-preserved c =
    let l = c.loop-block in
    let same = c.blocks-blocks.ensures.value ∙ ap (λ y. y.blocks) c.yard.ensures.value in
    let n = blocks-length c.args.codes.now in
    let long = ap length same in
    let here = read_at c.blocks-blocks.result.now c.args.codes.now.blocks l.block c.index-blocks-block.result same (omega arith) c.index-blocks-block.is in
    let found = rw c.from-number.ensures at (sym c.in_ok-code.ensures) in
    rw c.in_ok-push.ensures.items (next_row c.args.codes.now l.block c.index-blocks-block.result l.list.items l.rest.now _ here l.invariant
    c.in-Some.line.now c.in-Some.more.now c.in_ok-code.code (sym c.in-Some.ensures.parts) found)

pub returns : goal.returns
returns c =
    let l = c.loop-block in
    let n = blocks-length c.args.codes.now in
    all_rows c.args.codes.now l.block (l.block + 2) l.list.items l.rest.now _ (omega arith) l.invariant
