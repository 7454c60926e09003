use Rattle.std.proofs.Common.{arith, rules}
use Rattle.std.proofs.lemmas.Grind.{common_steps}
use Rattle.yard_io.proofs.Pieces.{pieces}
use Rattle.yard_io.proofs.reading.read_bytes.Goals as goal

pub loop-buf-preserved : goal.loop-buf-preserved
loop-buf-preserved g c = (
  grind (arith, common_steps),
  grind (arith, common_steps, pieces),
  search rules,
  search rules,
  search rules,
  search rules,
  grind (arith, common_steps),
)
