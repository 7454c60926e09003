use Rattle.std.proofs.Common.{sym, ◌∙◌}
use Rattle.tardiness_bounds.proofs.SpotLaws.{none_is, turn_refused, turns_more}
use Rattle.tardiness_bounds.proofs.witness.first_in_slot.Goals as goal
use Rattle.tardiness_bounds.proofs.witness.first_in_slot.Goals.{then-may_turn+else-is_some, else-may_turn}

pub loop-turn-preserved : goal.loop-turn-preserved
loop-turn-preserved c =
    turns_more c.args.tables.now.yard c.args.near.now c.args.block c.args.slot c.loop-turn.turn c.loop-turn.invariant
    (elim c.if-may_turn.branch [
      | then-may_turn+else-is_some w ↦ λ p t free.
          none_is w.first_in_turn-found.result _ (sym w.is_some.ensures ∙ w.if-is_some.false) w.first_in_turn-found.ensures.none p t free
      | else-may_turn w ↦
          turn_refused c.args.tables.now.yard c.args.near.now c.args.block c.args.slot c.loop-turn.turn c.may_turn.result c.requires.block c.may_turn.ensures w.if-may_turn.false
    ])
