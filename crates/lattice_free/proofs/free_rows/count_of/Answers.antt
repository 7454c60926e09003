use Rattle.std.proofs.Common.{arith}
use Rattle.lattice_free.specs.declared.run.Run.{Run}
use Rattle.lattice_free.proofs.RunLaws.{length_more, length_more_le}
use Rattle.lattice_free.proofs.free_rows.count_of.Goals as goal

none : Run
none = record { row = 0; from = 0; to = 0 }

pub overflow_add-total : goal.overflow_add-total
unfolding none
overflow_add-total c =
    let h = length_more_le c.args.pitch c.args.runs.now c.loop-run.run-index none c.loop-run-test.true in
    let e = c.from-total.ensures in
    omega (arith, h, e)

pub loop-run-preserved : goal.loop-run-preserved
unfolding none
loop-run-preserved c =
    let h = length_more c.args.pitch c.args.runs.now c.loop-run.run-index none c.loop-run-test.true in
    let e = c.from-total.ensures in
    let i = c.loop-run.invariant in
    omega (arith, h, e, i)
