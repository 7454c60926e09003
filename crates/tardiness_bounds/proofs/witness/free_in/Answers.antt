use Rattle.std.proofs.Common.{length, sym, subst}
use Rattle.common_lists.proofs.ListLaws.{some_weaker}
use Rattle.tardiness_bounds.specs.Neighbours.{AreNear}
use Rattle.tardiness_bounds.specs.Slots.{place_of_slot}
use Rattle.tardiness_bounds.specs.Witnesses.{IsFree, IsFreeNear, IsFull, IsFullNear}
use Rattle.tardiness_bounds.proofs.SpotLaws.{free_near, full_near, none_so}
use Rattle.tardiness_bounds.proofs.witness.free_in.Goals as goal

pub returns-clause-none : goal.returns-clause-none
returns-clause-none c =
    none_so c.first_in_slot.result (IsFullNear c.args.tables.now.yard c.as_slice-near.result.now c.args.block c.args.slot) (IsFull c.args.tables.now.yard c.args.list.now c.args.block c.args.slot)
    (full_near c.args.tables.now.yard c.args.list.now c.as_slice-near.result.now c.args.block c.args.slot c.requires.slot c.requires.list
    (subst (AreNear c.args.tables.now.yard (place_of_slot c.args.slot) c.args.list.now (length c.args.tables.now.yard.fixed)) (sym c.as_slice-near.ensures.value)
    (subst (λ p. AreNear c.args.tables.now.yard p c.args.list.now (length c.args.tables.now.yard.fixed) c.near_to.new.near.items) c.place_of_slot.ensures c.near_to.ensures.near)))
    c.first_in_slot.ensures.none

pub returns-clause-some : goal.returns-clause-some
returns-clause-some c =
    some_weaker c.first_in_slot.result (IsFreeNear c.args.tables.now.yard c.as_slice-near.result.now c.args.block c.args.slot) (IsFree c.args.tables.now.yard c.args.list.now c.args.block c.args.slot)
    (λ p. free_near c.args.tables.now.yard c.args.list.now c.as_slice-near.result.now c.args.block c.args.slot p c.requires.slot c.requires.list
    (subst (AreNear c.args.tables.now.yard (place_of_slot c.args.slot) c.args.list.now (length c.args.tables.now.yard.fixed)) (sym c.as_slice-near.ensures.value)
    (subst (λ p. AreNear c.args.tables.now.yard p c.args.list.now (length c.args.tables.now.yard.fixed) c.near_to.new.near.items) c.place_of_slot.ensures c.near_to.ensures.near)))
    c.first_in_slot.ensures.some
