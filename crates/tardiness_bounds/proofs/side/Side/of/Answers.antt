use Rattle.std.proofs.Common.{◌+◌, [], ◌∷◌, length, ap, ◌∙◌, length-append, arith}
use Rattle.plan_rule.proofs.CountLaws.{blocks-length}
use Rattle.tardiness_bounds.specs.Sides.{IsExactPlace}
use Rattle.tardiness_bounds.proofs.NextLaws.{each_more}
use Rattle.tardiness_bounds.proofs.side.Side.of.Goals as goal

pub loop-block-preserved : goal.loop-block-preserved
loop-block-preserved c = record {
  len = ap length c.push.ensures.items ∙ length-append c.loop-block.places.items (c.exact_place.result ∷ []) ∙ ap (λ n. n + 1) c.loop-block.invariant.len;
  each = each_more (IsExactPlace c.args.codes.now c.args.part.now) c.loop-block.places.items c.push.new.self.items c.exact_place.result c.loop-block.block
      c.loop-block.invariant.len c.loop-block.invariant.each c.exact_place.ensures c.push.ensures.items;
}

pub returns-clause-places : goal.returns-clause-places
returns-clause-places c = record {
  len = (let n = c.loop-block.invariant.len in let e = blocks-length c.args.codes.now in let v = c.block_count-block-end.ensures.value in omega arith);
  each = c.loop-block.invariant.each;
}
