use Rattle.std.proofs.Common.{◌∙◌, arith, rules}
use Rattle.std.proofs.lemmas.Grind.{common_steps}
use Rattle.yard_io.proofs.Pieces.{said_rest}
use Rattle.yard_io.proofs.saying.say_all.Goals as goal

pub loop-done-preserved : goal.loop-done-preserved
loop-done-preserved g c = (
  grind (arith, common_steps),
  c.in_ok-done.ensures.said ∙ said_rest _ _ _ _ _ c.loop-done.invariant.1,
  search rules,
  search rules,
  search rules,
  search rules,
)
