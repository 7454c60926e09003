use Rattle.std.proofs.Common.{◌-◌, ◌<◌, length, get_or, arith}
use Rattle.code_table.proofs.SpotLaws.{some_stand, few_stands, in_stand, not_empty, spot_at}
use Rattle.code_table.proofs.TableLaws.{count_at}
use Rattle.code_table.proofs.spot.spot_of.Goals as goal

pub place_of-k-requires-clause-some : goal.place_of-k-requires-clause-some
place_of-k-requires-clause-some c =
    let some = some_stand c.args.yard.now c.args.block.now c.args.code c.requires.code in let long = c.requires.sums.len in omega arith

pub place_of-k-requires-clause-last : goal.place_of-k-requires-clause-last
place_of-k-requires-clause-last c =
    let last = count_at c.args.yard.now c.args.block.now c.args.sums.now c.requires.sums in
    let code = c.requires.code in
    let l : c.args.code < get_or c.args.sums.now (length c.args.sums.now - 1) 0 = omega arith in l

pub overflow_cast-k : goal.overflow_cast-k
overflow_cast-k c =
    let few = few_stands c.args.yard.now c.requires.limits in let long = c.requires.sums.len in
    let within = c.place_of-k.ensures.within in omega arith

pub unreachable-requires : goal.unreachable-requires
unreachable-requires c =
    let (k, within, at) = in_stand c.args.yard.now c.args.block.now c.args.sums.now c.place_of-k.result c.args.code c.requires.sums
    c.place_of-k.ensures.within c.place_of-k.ensures.low c.place_of-k.ensures.high in
    not_empty c.args.yard.now c.args.block.now c.place_of-k.result _ _ _ _ c.nth_stand-at.ensures.start c.nth_stand-at.ensures.plate
    c.nth_stand-at.ensures.turn within (c.in_default.ensures.none c.nth_stand-at.result.turn)

pub returns : goal.returns
returns c =
    let (k, within, at) = in_stand c.args.yard.now c.args.block.now c.args.sums.now c.place_of-k.result c.args.code c.requires.sums
    c.place_of-k.ensures.within c.place_of-k.ensures.low c.place_of-k.ensures.high in
    spot_at c.args.yard.now c.args.block.now c.args.code c.place_of-k.result _ c.nth_stand-at.ensures.start c.nth_stand-at.ensures.plate
    c.nth_stand-at.ensures.turn c.nth_stand-at.ensures.start_within c.nth_stand-at.ensures.turn_within c.in-Some.ensures.some within at
