use Rattle.std.proofs.Common.{◌≡◌, ◌∙◌, sym, subst, arith}
use Rattle.plan_rule.specs.Choices.{blocks}
use Rattle.plan_rule.specs.Plans.{IsPlan}
use Rattle.plan_rule.specs.Yards.{choices}
use Rattle.branch_kernel.proofs.SplitLaws.{exact_more, whole_plan}
use Rattle.branch_kernel.proofs.boxes.plan_of.Goals as goal

pub loop-block-preserved : goal.loop-block-preserved
loop-block-preserved c =
    let here = c.loop-block-test.true in
    let top = c.block_count-block-end.ensures.value in
    exact_more (choices c.args.codes.now) c.args.part.now _ _ _ c.range_on.result c.requires.part.ascending c.requires.whole (omega arith) c.loop-block.invariant.0 c.loop-block.invariant.1
    c.range_on.ensures c.in_ok-push.ensures.items

pub new-requires : goal.new-requires
new-requires c =
    let past = c.loop-block-test.false in
    let most = c.loop-block.auto.block-end in
    let top = c.block_count-block-end.ensures.value in
    let all : c.loop-block.block ≡ blocks (choices c.args.codes.now) = omega arith in
    record {
      plan = subst (IsPlan (choices c.args.codes.now)) (sym c.as_slice.ensures.value)
          (whole_plan (choices c.args.codes.now) c.args.part.now _ c.requires.part (c.loop-block.invariant.0 ∙ all) (λ b l. c.loop-block.invariant.1 b (omega arith)));
    }
