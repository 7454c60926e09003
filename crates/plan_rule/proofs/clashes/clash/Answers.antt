use Rattle.std.proofs.Common.{refl}
use Rattle.plan_rule.proofs.CountLaws.{block_exists, code_exists}
use Rattle.plan_rule.proofs.ClashLaws.{clear_by_place, clash_by_shapes}
use Rattle.plan_rule.proofs.clashes.clash.Goals as goal

pub place-one-requires-clause-block : goal.place-one-requires-clause-block
place-one-requires-clause-block c = block_exists _ _ c.requires.first.0

pub place-one-requires-clause-code : goal.place-one-requires-clause-code
place-one-requires-clause-code c = code_exists _ _ _ c.requires.first

pub place-two-requires-clause-block : goal.place-two-requires-clause-block
place-two-requires-clause-block c = block_exists _ _ c.requires.second.0

pub place-two-requires-clause-code : goal.place-two-requires-clause-code
place-two-requires-clause-code c = code_exists _ _ _ c.requires.second

pub returns-then-not-may_clash : goal.returns-then-not-may_clash
returns-then-not-may_clash c = clear_by_place _ _ _ _ _ _ _ c.place-one.ensures.value c.place-two.ensures.value c.if-not-may_clash.ensures.1

pub shape-first-requires-clause-block : goal.shape-first-requires-clause-block
shape-first-requires-clause-block c = block_exists _ _ c.requires.first.0

pub shape-second-requires-clause-block : goal.shape-second-requires-clause-block
shape-second-requires-clause-block c = block_exists _ _ c.requires.second.0

pub returns : goal.returns
returns c = clash_by_shapes _ _ _ _ _ _ _ c.shape-first.result.now c.shape-second.result.now c.corner.result c.corner-2.result c.apart.result
    (record {
      first_block = block_exists _ _ c.requires.first.0;
      second_block = block_exists _ _ c.requires.second.0;
      p_is = c.place-one.ensures.value;
      q_is = c.place-two.ensures.value;
      first_is = c.shape-first.ensures;
      second_is = c.shape-second.ensures;
    })
    (c.if-not-may_clash.ensures.0 refl) c.corner.ensures.value c.corner-2.ensures.value c.apart.ensures.apart
