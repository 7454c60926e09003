use Rattle.std.proofs.Common.{◌≡◌, ◌<◌, length, List, sym, ap, subst, ◌∙◌, arith}
use Rattle.code_table.proofs.ReadLaws.{read_at}
use Rattle.tardiness_bounds.specs.declared.tables.SlotList.{SlotList}
use Rattle.tardiness_bounds.specs.declared.slot.Slot.{Slot}
use Rattle.tardiness_bounds.specs.Tables.{AreAllSlots, PlainTables}
use Rattle.tardiness_bounds.specs.Slots.{AreSlots}
use Rattle.tardiness_bounds.proofs.tables.YardTables.slots.Goals as goal

pub returns-clause-all : goal.returns-clause-all
returns-clause-all c = λ b at.
    let same : c.self.inside.codes.now ≡ c.args.self.now.yard = ap (λ (t : PlainTables). t.yard) c.self.view_is in
    let are : AreAllSlots c.args.self.now.yard c.self.inside.slots.items =
    subst (λ y. AreAllSlots y c.self.inside.slots.items) same c.self.invariant.slots_are in
    let long = are.one_each in
    let within : c.args.block < length c.self.inside.slots.items = (let l = c.requires in omega arith) in
    let here = read_at c.self.inside.slots.items _ c.args.block c.index-slots-block.result c.as_slice-slots.ensures.value within c.index-slots-block.is in
    subst (λ (ss : List Slot). AreSlots c.args.self.now.yard b ss) (ap (λ (l : SlotList). l.list.items) c.index-slots-block.is ∙ sym c.as_slice.ensures.value)
    (are.each c.args.block b c.index-slots-block.result at here)
