use Rattle.std.proofs.Common.{◌+◌, length, arith, refl, ap, ◌∙◌, length-append, ◌∷◌, []}
use Rattle.code_table.proofs.ReadLaws.{read_at}
use Rattle.tardiness_bounds.proofs.TableLaws.{slots_more}
use Rattle.tardiness_bounds.proofs.tables.all_slots.Goals as goal

pub loop-block-preserved : goal.loop-block-preserved
loop-block-preserved c =
    let at = read_at c.blocks-blocks.result.now c.blocks-blocks.result.now c.loop-block.block-index c.block-item.result refl (omega arith) c.block-item.is in record {
      len = ap length c.in_ok-push.ensures.items ∙ length-append c.loop-block.slots.items (record { list = c.in_ok-list.list } ∷ []) ∙ ap (λ n. n + 1) c.loop-block.invariant.len;
      each = slots_more c.args.codes.now c.blocks-blocks.result.now c.loop-block.slots.items c.push.new.self.items c.loop-block.block-index c.block-item.result
          (record { list = c.in_ok-list.list }) c.loop-block.invariant.len c.loop-block.invariant.each at c.in_ok-list.ensures c.in_ok-push.ensures.items;
    }
