use Rattle.std.proofs.Common.{◌≡◌, ◌+◌, ◌<◌, [], ◌∷◌, length, take, get_or, sym, ap, subst, ◌∙◌, length-append, arith}
use Rattle.std.proofs.lemmas.Option.{slice_get-get_or}
use Rattle.common_lists.proofs.ListLaws.{take_before}
use Rattle.plan_rule.specs.Choices.{blocks}
use Rattle.plan_rule.specs.Yards.{choices}
use Rattle.plan_rule.proofs.CountLaws.{block_exists, blocks-length}
use Rattle.tardiness_bounds.specs.Lefts.{IsLeft}
use Rattle.tardiness_bounds.proofs.NextLaws.{each_after}
use Rattle.tardiness_bounds.proofs.StackLaws.{kept_get}
use Rattle.tardiness_bounds.proofs.left.add_lefts.Goals as goal

pub index-requires : goal.index-requires
index-requires c =
    let e : blocks (choices c.codes.result.now) ≡ blocks (choices c.args.tables.now.yard) = ap (λ y. blocks (choices y)) c.codes.ensures in
    let n = blocks-length c.args.tables.now.yard in
    let v = c.block_count-block-end.ensures.value in
    let l = c.requires.old.lefts_are.len in
    let k = c.loop-block.invariant.len in
    omega arith

pub next_left-left-requires-clause-block : goal.next_left-left-requires-clause-block
next_left-left-requires-clause-block c =
    let e : blocks (choices c.codes.result.now) ≡ blocks (choices c.args.tables.now.yard) = ap (λ y. blocks (choices y)) c.codes.ensures in
    block_exists c.args.tables.now.yard c.loop-block.block (let v = c.block_count-block-end.ensures.value in omega arith)

pub next_left-left-requires-clause-old : goal.next_left-left-requires-clause-old
next_left-left-requires-clause-old c =
    let below = next_left-left-requires-clause-block c in
    let l = c.requires.old.lefts_are.len in
    let k = c.loop-block.invariant.len in
    let before : c.args.from + c.loop-block.block < length c.args.lefts.now.items = omega arith in
    let now : c.args.from + c.loop-block.block < length c.loop-block.lefts.items = omega arith in
    record {
      before = c.requires.old.before;
      ends = c.requires.old.ends;
      free = c.requires.old.free;
      left = subst (IsLeft c.args.tables.now c.requires.old.before c.loop-block.block) (sym c.index.ensures)
          (c.requires.old.lefts_are.each c.loop-block.block (get_or c.loop-block.lefts.items (c.args.from + c.loop-block.block) c.index.result.now) below
          (kept_get c.args.lefts.now.items c.loop-block.lefts.items (c.args.from + c.loop-block.block) _ c.loop-block.invariant.kept before
          (slice_get-get_or c.loop-block.lefts.items (c.args.from + c.loop-block.block) c.index.result.now now)));
    }

pub loop-block-preserved : goal.loop-block-preserved
loop-block-preserved c =
    let k = c.loop-block.invariant.len in
    let more = ap length c.in-Ok.ensures.items ∙ length-append c.loop-block.lefts.items (c.next_left-left.result ∷ []) in
    record {
      len = omega arith;
      kept = ap (take (length c.args.lefts.now.items)) c.in-Ok.ensures.items
          ∙ take_before c.loop-block.lefts.items (c.next_left-left.result ∷ []) (length c.args.lefts.now.items) (omega arith) ∙ c.loop-block.invariant.kept;
      each = each_after (IsLeft c.args.tables.now c.args.list.now) c.loop-block.lefts.items c.push.new.self.items c.next_left-left.result (length c.args.lefts.now.items) c.loop-block.block
          c.loop-block.invariant.len c.loop-block.invariant.each c.next_left-left.ensures c.in-Ok.ensures.items;
      room = (let r = c.loop-block.invariant.room in let p = c.push.ensures.capacity in omega arith);
    }

pub returns-clause-len : goal.returns-clause-len
returns-clause-len c =
    let e : blocks (choices c.codes.result.now) ≡ blocks (choices c.args.tables.now.yard) = ap (λ y. blocks (choices y)) c.codes.ensures in
    let n = blocks-length c.args.tables.now.yard in
    let v = c.block_count-block-end.ensures.value in
    let k = c.loop-block.invariant.len in
    omega arith

pub returns-clause-lefts : goal.returns-clause-lefts
returns-clause-lefts c =
    let long = returns-clause-len c in
    let e : blocks (choices c.codes.result.now) ≡ blocks (choices c.args.tables.now.yard) = ap (λ y. blocks (choices y)) c.codes.ensures in
    let n = blocks-length c.args.tables.now.yard in
    let v = c.block_count-block-end.ensures.value in
    record {
      len = omega arith;
      each = λ b x l at. c.loop-block.invariant.each b x (omega arith) at;
    }
