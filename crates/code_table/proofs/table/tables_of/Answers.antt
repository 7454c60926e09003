use Rattle.std.proofs.Common.{◌≡◌, ◌+◌, length, arith, refl, ap, ◌∙◌, subst, length-append, ◌∷◌, []}
use Rattle.code_table.proofs.ReadLaws.{read_at}
use Rattle.code_table.proofs.TableLaws.{tables_more, HasTables}
use Rattle.code_table.proofs.table.tables_of.Goals as goal

pub loop-block-preserved : goal.loop-block-preserved
loop-block-preserved c =
    let at = read_at c.blocks-blocks.result.now c.blocks-blocks.result.now c.loop-block.block-index c.block-item.result refl (omega arith) c.block-item.is in (
      ap length c.in_ok-push.ensures.items ∙ length-append c.loop-block.tables.items (c.in_ok-table_of.field-0 ∷ []) ∙ ap (λ n. n + 1) c.loop-block.invariant.0,
      tables_more c.args.yard.now c.blocks-blocks.result.now c.loop-block.tables.items c.push.new.self.items c.loop-block.block-index c.block-item.result
          c.in_ok-table_of.field-0 c.loop-block.invariant.0 c.loop-block.invariant.1 at c.in_ok-table_of.ensures c.in_ok-push.ensures.items,
    )

pub returns : goal.returns
returns c =
    record {
      one_each = c.loop-block.invariant.0 ∙ (let e : c.loop-block.block-index ≡ length c.blocks-blocks.result.now = omega arith in e) ∙ ap length c.blocks-blocks.ensures.value;
      each_is = subst (λ bs. HasTables c.args.yard.now bs c.loop-block.tables.items) c.blocks-blocks.ensures.value c.loop-block.invariant.1;
    }
