use Rattle.std.proofs.Common.{refl}
use Rattle.common_lists.proofs.ListLaws.{element_at}
use Rattle.tardiness_bounds.proofs.SlotLaws.{slot_is}
use Rattle.tardiness_bounds.proofs.slot.slot_at.Goals as goal

pub returns-in-Some-clause-some : goal.returns-in-Some-clause-some
returns-in-Some-clause-some c =
    let (plate, at) = element_at c.args.codes.now.plates c.args.plate c.requires.plate in (
      slot_is c.args.codes.now c.args.block.now c.args.start c.args.plate c.in-Some.end _ plate c.calendar.result.now c.requires.start c.if-start-block.false at
          (c.calendar.ensures plate at) c.in-Some.ensures c.cost_on.ensures.value,
      (refl, refl),
    )
