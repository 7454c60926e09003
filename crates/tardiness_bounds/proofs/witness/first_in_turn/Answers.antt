use Rattle.std.proofs.Common.{sym, subst}
use Rattle.lattice_free.specs.Runs.{IsPitch}
use Rattle.tardiness_bounds.proofs.LatticeLaws.{column_fits, row_fits}
use Rattle.tardiness_bounds.proofs.SpotLaws.{slot_plate, turn_none, turn_some}
use Rattle.tardiness_bounds.proofs.witness.first_in_turn.Goals as goal

pub lattice-lattice-requires-clause-plate : goal.lattice-lattice-requires-clause-plate
lattice-lattice-requires-clause-plate c = slot_plate c.args.tables.now.yard c.args.block c.args.slot c.requires.block c.requires.slot

pub first_clear-requires-clause-pitch : goal.first_clear-requires-clause-pitch
first_clear-requires-clause-pitch c =
    let at = c.lattice-lattice.ensures in
    subst IsPitch (sym at.lattice.pitch) at.limits.pitch

pub overflow_mul-result : goal.overflow_mul-result
overflow_mul-result c = row_fits c.args.tables.now.yard c.args.slot.plate _ c.in-Some.row c.lattice-lattice.result c.lattice-lattice.ensures c.in-Some.ensures.some.0

pub overflow_mul-result-in-Some : goal.overflow_mul-result-in-Some
overflow_mul-result-in-Some c = column_fits c.args.tables.now.yard c.args.slot.plate _ c.in-Some.column c.lattice-lattice.result c.lattice-lattice.ensures c.in-Some.ensures.some.1

pub returns-in-None-clause-none : goal.returns-in-None-clause-none
returns-in-None-clause-none c =
    turn_none c.args.tables.now.yard c.args.near.now c.args.block c.args.slot c.args.turn c.lattice-lattice.result
    (record { block = c.requires.block; turn_is = c.requires.turn; slot = c.requires.slot; at = c.lattice-lattice.ensures }) c.in-None.ensures.none

pub returns-in-Some-clause-some : goal.returns-in-Some-clause-some
returns-in-Some-clause-some c =
    let some = c.in-Some.ensures.some in
    turn_some c.args.tables.now.yard c.args.near.now c.args.block c.args.slot c.args.turn c.lattice-lattice.result c.in-Some.row c.in-Some.column
    (record { block = c.requires.block; turn_is = c.requires.turn; slot = c.requires.slot; at = c.lattice-lattice.ensures }) c.requires.allowed
    some.0 some.1 some.3
