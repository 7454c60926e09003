use Rattle.std.proofs.Common.{arith}
use Rattle.incumbent_word.proofs.PairLaws.{pair_is_plan, made_pair}
use Rattle.incumbent_word.proofs.tests.squares.plan_of.Goals as goal

pub new-requires : goal.new-requires
new-requires g c = record {
  plan = pair_is_plan _ _ _ c.requires (omega (arith, c.count.ensures.value, c.if-first-count.false)) (omega (arith, c.count-else-first-count.ensures.value, c.if-second-count.false));
}

pub first_clash-requires : goal.first_clash-requires
first_clash-requires g c =
    made_pair _ _ _ _ _ c.requires (omega (arith, c.count.ensures.value, c.if-first-count.false)) (omega (arith, c.count-else-first-count.ensures.value, c.if-second-count.false)) c.new.ensures c.expect-plan.ensures

pub first_met-requires : goal.first_met-requires
first_met-requires g c =
    made_pair _ _ _ _ _ c.requires (omega (arith, c.count.ensures.value, c.if-first-count.false)) (omega (arith, c.count-else-first-count.ensures.value, c.if-second-count.false)) c.new.ensures c.expect-plan.ensures

pub returns : goal.returns
returns g c = record {
  is_plan = made_pair _ _ _ _ _ c.requires (omega (arith, c.count.ensures.value, c.if-first-count.false)) (omega (arith, c.count-else-first-count.ensures.value, c.if-second-count.false)) c.new.ensures c.expect-plan.ensures;
  clear = c.in-None.ensures;
  unmet = c.in-None-first_met.ensures;
}
