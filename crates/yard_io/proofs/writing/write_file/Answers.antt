use Rattle.std.proofs.Common.{arith, rules}
use Rattle.std.proofs.lemmas.Grind.{common_steps}
use Rattle.yard_io.proofs.Pieces.{sets_more}
use Rattle.yard_io.proofs.writing.write_file.Goals as goal

pub loop-done-preserved : goal.loop-done-preserved
loop-done-preserved g c = (
  grind (arith, common_steps),
  sets_more (g.D.Desk.tells c.args.desk.now) _ _ _ c.args.name.now c.args.bytes.now c.loop-done.done c.in_ok-done.field-0 c.loop-done.invariant.1
      (rw c.loop-done.invariant.3 at c.in_ok-done.ensures.made),
  search rules,
  search rules,
  search rules,
  search rules,
)
