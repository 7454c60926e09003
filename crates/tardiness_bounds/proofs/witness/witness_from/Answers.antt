use Rattle.std.proofs.Common.{◌<◌, length, arith}
use Rattle.std.proofs.lemmas.Option.{slice_get-get_or}
use Rattle.tardiness_bounds.proofs.SpotLaws.{full_all, full_next, witness_at}
use Rattle.tardiness_bounds.proofs.witness.witness_from.Goals as goal

pub returns-in-Some-clause-some : goal.returns-in-Some-clause-some
returns-in-Some-clause-some c =
    witness_at c.args.tables.now c.args.list.now c.args.block c.loop-i.i c.slots-slots.result.now _ c.in-Some.place c.slots-slots.ensures.value (omega arith)
    c.in-Some.ensures.some c.loop-i.invariant

pub loop-i-preserved : goal.loop-i-preserved
loop-i-preserved c =
    let l : c.loop-i.i < length c.slots-slots.result.now = omega arith in
    full_next c.args.tables.now c.args.list.now c.args.block c.loop-i.i c.slots-slots.result.now _ c.slots-slots.ensures.value
    (slice_get-get_or c.slots-slots.result.now c.loop-i.i _ l) c.loop-i.invariant c.in_default.ensures.none

pub returns-clause-none : goal.returns-clause-none
returns-clause-none c =
    full_all c.args.tables.now c.args.list.now c.args.block c.loop-i.i c.slots-slots.result.now c.slots-slots.ensures.value (omega arith) c.slots-slots.ensures.all c.loop-i.invariant
