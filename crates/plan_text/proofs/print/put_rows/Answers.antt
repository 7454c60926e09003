use Rattle.std.proofs.Common.{◌≡◌, ◌++◌, ◌∙◌, ap, arith, length}
use Rattle.std.specs.String.{string_bytes}
use Rattle.common_lists.specs.Each.{each}
use Rattle.plan_rule.proofs.CountLaws.{blocks-length}
use Rattle.plan_text.specs.Texts.{row_text, rows_text}
use Rattle.plan_text.proofs.RowLaws.{rows_more}
use Rattle.plan_text.proofs.print.put_rows.Goals as goal

pub loop-block-preserved : goal.loop-block-preserved
loop-block-preserved c =
    rows_more c.args.codes.now c.args.plan.now c.loop-block.block (string_bytes c.args.out.now) (string_bytes c.loop-block.out) _ c.loop-block.invariant
    c.in_ok-put_block.ensures

pub returns : goal.returns
unfolding rows_text
returns c =
    let n = blocks-length c.args.codes.now in
    let e : c.loop-block.block ≡ length c.args.codes.now.blocks = omega arith in
    c.loop-block.invariant ∙ ap (λ k. string_bytes c.args.out.now ++ each k (row_text c.args.codes.now c.args.plan.now)) e
