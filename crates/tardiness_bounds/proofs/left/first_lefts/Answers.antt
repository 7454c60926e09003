use Rattle.std.proofs.Common.{◌≡◌, ◌+◌, [], ◌∷◌, length, ap, ◌∙◌, length-append, arith, subst, Some}
use Rattle.std.specs.Prelude.{slice_get}
use Rattle.plan_rule.specs.Choices.{blocks}
use Rattle.plan_rule.specs.Yards.{choices}
use Rattle.plan_rule.proofs.CountLaws.{block_exists, blocks-length}
use Rattle.tardiness_bounds.specs.Lefts.{IsLeft}
use Rattle.tardiness_bounds.proofs.NextLaws.{each_more}
use Rattle.tardiness_bounds.proofs.left.first_lefts.Goals as goal

pub first_left-requires : goal.first_left-requires
first_left-requires c =
    let e : blocks (choices c.codes-codes.result.now) ≡ blocks (choices c.args.tables.now.yard) = ap (λ y. blocks (choices y)) c.codes-codes.ensures in
    block_exists c.args.tables.now.yard c.loop-block.block (let v = c.block_count-block-end.ensures.value in omega arith)

pub loop-block-preserved : goal.loop-block-preserved
loop-block-preserved c = record {
  len = ap length c.in_ok-push.ensures.items ∙ length-append c.loop-block.lefts.items (c.first_left.result ∷ []) ∙ ap (λ n. n + 1) c.loop-block.invariant.len;
  each = each_more (IsLeft c.args.tables.now []) c.loop-block.lefts.items c.push.new.self.items c.first_left.result c.loop-block.block
      c.loop-block.invariant.len c.loop-block.invariant.each c.first_left.ensures c.in_ok-push.ensures.items;
  room = (let r = c.loop-block.invariant.room in let k = c.push.ensures.capacity in omega arith);
}

pub returns-clause-lefts : goal.returns-clause-lefts
returns-clause-lefts c =
    let e : blocks (choices c.codes-codes.result.now) ≡ blocks (choices c.args.tables.now.yard) = ap (λ y. blocks (choices y)) c.codes-codes.ensures in
    let n = blocks-length c.args.tables.now.yard in
    record {
      len = (let v = c.block_count-block-end.ensures.value in let l = c.loop-block.invariant.len in omega arith);
      each = λ b x l at. c.loop-block.invariant.each b x (let z : 0 + b ≡ b = omega arith in subst (λ k. slice_get c.loop-block.lefts.items k ≡ Some x) z at);
    }

pub returns-clause-len : goal.returns-clause-len
returns-clause-len c =
    let e : blocks (choices c.codes-codes.result.now) ≡ blocks (choices c.args.tables.now.yard) = ap (λ y. blocks (choices y)) c.codes-codes.ensures in
    let n = blocks-length c.args.tables.now.yard in
    let v = c.block_count-block-end.ensures.value in
    let l = c.loop-block.invariant.len in
    omega arith
