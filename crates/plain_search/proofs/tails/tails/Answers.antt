use Rattle.std.proofs.Common.{◌<◌, ◌+◌, ◌-◌, ap, arith}
use Rattle.plan_rule.specs.Choices.{blocks}
use Rattle.plan_rule.specs.Yards.{choices}
use Rattle.plan_rule.proofs.CountLaws.{block_exists}
use Rattle.plain_search.proofs.TailLaws.{AreFirst, first_more, first_all, first_sum, least_low, block_bare}
use Rattle.plain_search.proofs.tails.tails.Goals as goal

pub least_cost-requires : goal.least_cost-requires
least_cost-requires c =
    let l : c.block_count-blocks.result - 1 - c.loop-k.k < blocks (choices c.args.codes.now) = omega arith in
    block_exists _ _ l

pub overflow_add-sum : goal.overflow_add-sum
overflow_add-sum c =
    let limit = c.in-Some.ensures.few in
    let small = c.loop-k.invariant.first.small c.loop-k.k (omega arith) in
    let last = c.loop-k.invariant.last in
    omega arith

pub returns-in-None : goal.returns-in-None
returns-in-None c =
    block_bare c.args.codes.now (c.block_count-blocks.result - 1 - c.loop-k.k)
    (let l : c.block_count-blocks.result - 1 - c.loop-k.k < blocks (choices c.args.codes.now) = omega arith in l) c.in-None.ensures.none

pub loop-k-preserved : goal.loop-k-preserved
loop-k-preserved c =
    let limit = c.in-Some.ensures.few in
    let first : AreFirst (choices c.args.codes.now) c.push-in-loop-k.new.self.items (c.loop-k.k + 1) =
    first_more (choices c.args.codes.now) c.loop-k.list.items c.push-in-loop-k.new.self.items c.loop-k.k (c.loop-k.sum + c.in-Some.least) c.in-Some.least
    c.loop-k.invariant.first (ap (λ n. n + c.in-Some.least) c.loop-k.invariant.last) (omega arith)
    (least_low c.args.codes.now (c.block_count-blocks.result - 1 - c.loop-k.k) _ c.in-Some.least (omega arith) (omega arith) c.in-Some.ensures.least)
    limit c.in_ok-push-2.ensures.items in
    record {
      first = first;
      last = first_sum (choices c.args.codes.now) c.loop-k.list.items c.push-in-loop-k.new.self.items c.loop-k.k (c.loop-k.sum + c.in-Some.least)
          c.loop-k.invariant.first c.in_ok-push-2.ensures.items;
    }

pub returns : goal.returns
returns c = first_all (choices c.args.codes.now) c.loop-k.list.items c.loop-k.k c.loop-k.invariant.first (omega arith)
