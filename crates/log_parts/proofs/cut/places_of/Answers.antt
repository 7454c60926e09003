use Rattle.std.proofs.Common.{◌+◌, arith, get_or, subst, sym, Ok, Err, take}
use Rattle.std.proofs.lemmas.List.Sorted.{searched}
use Rattle.log_parts.specs.Picked.{AreFoundIn}
use Rattle.log_parts.proofs.PartLaws.{found_none, found_one, not_missing}
use Rattle.log_parts.proofs.cut.places_of.Goals as goal

pub loop-number-init : goal.loop-number-init
loop-number-init c = found_none _ _ c.new-places.ensures.items

pub unreachable-requires : goal.unreachable-requires
unreachable-requires c =
    let xs = c.args.numbers.now in
    let s = searched c.args.picked.now (get_or xs c.loop-number.number-index 0) (Err c.in_default.field-0) c.in_default.ensures.position c.requires.rises in
    not_missing c.args.picked.now (get_or xs c.loop-number.number-index 0) c.in_default.field-0 (c.requires.found c.loop-number.number-index 0 (omega arith)) s.1 s.2

pub loop-number-preserved : goal.loop-number-preserved
loop-number-preserved c =
    let xs = c.args.numbers.now in
    let s = searched c.args.picked.now (get_or xs c.loop-number.number-index 0) (Ok c.in-Ok.place) c.in-Ok.ensures.position c.requires.rises in
    subst (AreFoundIn c.args.picked.now (take (c.loop-number.number-index + 1) xs)) (sym c.in_ok-push.ensures.items)
    (found_one c.args.picked.now xs c.loop-number.places.items c.loop-number.number-index c.in-Ok.place (omega arith) c.loop-number.invariant s.0 s.1)
