use Rattle.std.proofs.Common.{◌+◌, ◌∷◌, [], length, ap, ◌∙◌, length-append}
use Rattle.tardiness_bounds.proofs.TableLaws.{stretches_more}
use Rattle.tardiness_bounds.proofs.tables.all_stretches.Goals as goal

pub loop-block-preserved : goal.loop-block-preserved
loop-block-preserved c = record {
  len = ap length c.in_ok-push.ensures.items ∙ length-append c.loop-block.stretches.items (c.in_ok-stretches_of.field-0 ∷ []) ∙ ap (λ n. n + 1) c.loop-block.invariant.len;
  each = stretches_more c.args.codes.now c.loop-block.stretches.items c.push.new.self.items c.in_ok-stretches_of.field-0 c.loop-block.block
      c.loop-block.invariant.len c.loop-block.invariant.each c.in_ok-stretches_of.ensures c.in_ok-push.ensures.items;
}
