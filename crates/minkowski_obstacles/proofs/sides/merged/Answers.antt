use Rattle.std.proofs.Common.{pos, ◌+◌}
use Rattle.minkowski_obstacles.specs.declared.side.Side.{Side}
use Rattle.minkowski_obstacles.proofs.JoinLaws.{merging_more, merging_turned}
use Rattle.minkowski_obstacles.proofs.sides.merged.Goals as goal

none : Side
none = record { at = record { x = pos 0; y = pos 0 }; along = record { x = pos 0; y = pos 0 } }

pub loop-i-preserved-then-first_is_next : goal.loop-i-preserved-then-first_is_next
unfolding none
loop-i-preserved-then-first_is_next c =
    merging_more c.args.first.now c.args.second.now c.loop-i.i c.loop-i.j none c.loop-i.kept.items c.keep.new.kept.items
    c.requires.first_sorted c.requires.second_sorted c.requires.first_directed c.loop-i.invariant (c.first_is_next.ensures.yes c.if-first_is_next.true) c.keep.ensures

pub loop-i-preserved : goal.loop-i-preserved
unfolding none
loop-i-preserved c =
    let xs = c.args.first.now in
    let ys = c.args.second.now in
    let i = c.loop-i.i in
    let j = c.loop-i.j in
    let ks = c.loop-i.kept.items in
    let ts = c.keep-else-first_is_next.new.kept.items in
    merging_turned ys xs (j + 1) i ts
    (merging_more ys xs j i none ks ts c.requires.second_sorted c.requires.first_sorted c.requires.second_directed (merging_turned xs ys i j ks c.loop-i.invariant)
    (c.first_is_next.ensures.no c.if-first_is_next.false) c.keep-else-first_is_next.ensures)
