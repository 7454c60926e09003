use Rattle.std.proofs.Common.{◌≡◌, ◌∙◌, arith, Some, ap, subst, sym, length}
use Rattle.std.specs.Prelude.{slice_get, slice_index}
use Rattle.std.proofs.lemmas.Option.{slice_get-get_or}
use Rattle.log_parts.proofs.PartLaws.{copied_none, copied_one, picked_bound, picked_cites, picked_early, read_at}
use Rattle.log_parts.proofs.cut.copies.Goals as goal

pub bounds-records-picked : goal.bounds-records-picked
bounds-records-picked c =
    let b = picked_bound c.args.log.now c.args.last c.args.picked.now c.loop-i.i c.requires.within c.requires.closed c.loop-i-test.true in
    let n = ap length c.records-records.ensures.value in omega arith

pub copy_onto-requires-clause-found : goal.copy_onto-requires-clause-found
copy_onto-requires-clause-found c =
    picked_cites c.args.log.now c.args.last c.args.picked.now c.loop-i.i c.index-records-picked.result c.requires.closed c.loop-i-test.true
    (read_at c.records-records.result.now c.args.log.now _ _ c.records-records.ensures.value (picked_bound c.args.log.now c.args.last c.args.picked.now c.loop-i.i c.requires.within c.requires.closed c.loop-i-test.true) c.index-records-picked.is)

pub copy_onto-requires-clause-earlier : goal.copy_onto-requires-clause-earlier
copy_onto-requires-clause-earlier c = λ j l held.
    let early = picked_early c.args.log.now c.args.picked.now c.loop-i.i j c.index-records-picked.result c.requires.earlier c.requires.rises c.loop-i-test.true
    (read_at c.records-records.result.now c.args.log.now _ _ c.records-records.ensures.value (picked_bound c.args.log.now c.args.last c.args.picked.now c.loop-i.i c.requires.within c.requires.closed c.loop-i-test.true) c.index-records-picked.is) l held in
    let n = c.loop-i.invariant.size in omega arith

pub loop-i-init : goal.loop-i-init
loop-i-init c = copied_none _ _ _ c.new-part.ensures

pub loop-i-preserved : goal.loop-i-preserved
loop-i-preserved c =
    copied_one c.args.log.now c.loop-i.part c.copy_onto.new.part c.args.picked.now c.loop-i.i c.index-records-picked.result c.loop-i.invariant
    (read_at c.records-records.result.now c.args.log.now _ _ c.records-records.ensures.value (picked_bound c.args.log.now c.args.last c.args.picked.now c.loop-i.i c.requires.within c.requires.closed c.loop-i-test.true) c.index-records-picked.is)
    c.in_ok-copy_onto.ensures
