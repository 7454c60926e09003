use Rattle.std.proofs.Common.{◌<◌, ◌+◌, List, length, sym, subst, ◌∙◌, arith}
use Rattle.std.proofs.lemmas.Option.{same_Some, slice_get-get_or}
use Rattle.shape_exact.specs.Yards.{IsYard}
use Rattle.plan_rule.specs.Yards.{choices}
use Rattle.plan_rule.specs.Bounds.{IsLeastOf, MayFit}
use Rattle.plan_rule.proofs.CountLaws.{block_exists}
use Rattle.tardiness_bounds.specs.declared.slot.Slot.{Slot}
use Rattle.tardiness_bounds.specs.Slots.{AreSlots}
use Rattle.tardiness_bounds.specs.Standings.{literals_of}
use Rattle.tardiness_bounds.proofs.LeftLaws.{least_few, left_least}
use Rattle.tardiness_bounds.proofs.frontier.least_in.Goals as goal

pub slots-slots-requires : goal.slots-slots-requires
slots-slots-requires c = block_exists c.args.tables.now.yard c.args.block c.requires.block

pub bounds-lefts-from : goal.bounds-lefts-from
bounds-lefts-from c = let l = block_exists c.args.tables.now.yard c.args.block c.requires.block in let e = c.requires.lefts.len in omega arith

pub returns-clause-least : goal.returns-clause-least
returns-clause-least c =
    let l = block_exists c.args.tables.now.yard c.args.block c.requires.block in
    let within : c.args.from + c.args.block < length c.args.lefts.now = (let e = c.requires.lefts.len in omega arith) in
    let is : IsYard c.args.tables.now.yard = subst IsYard c.codes.ensures c.limits.ensures.limits in
    subst (IsLeastOf (MayFit (choices c.args.tables.now.yard) (literals_of c.args.list.now) c.args.block) ((choices c.args.tables.now.yard).cost c.args.block)) (sym c.cost_of.ensures)
    (left_least c.args.tables.now c.args.list.now c.args.block _ is l c.requires.list c.requires.once
    (λ slots block at here. subst (λ (ss : List Slot). AreSlots c.args.tables.now.yard block ss) (same_Some _ slots (sym c.slots-slots.ensures.value ∙ at)) (c.slots-slots.ensures.all block here))
    (c.requires.lefts.each c.args.block _ l (slice_get-get_or c.args.lefts.now (c.args.from + c.args.block) _ within)))

pub returns-clause-few : goal.returns-clause-few
returns-clause-few c =
    let is : IsYard c.args.tables.now.yard = subst IsYard c.codes.ensures c.limits.ensures.limits in
    least_few c.args.tables.now.yard (literals_of c.args.list.now) c.args.block c.cost_of.result is c.requires.block (returns-clause-least c)
