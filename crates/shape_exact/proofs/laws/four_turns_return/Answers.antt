use Rattle.std.proofs.Common.{subst}
use Rattle.shape_exact.specs.Shapes.{IsShape}
use Rattle.shape_exact.proofs.FormLaws.{four_turns}
use Rattle.shape_exact.proofs.laws.four_turns_return.Goals as goal

pub returns : goal.returns
returns c = four_turns c.args.shape.now (subst IsShape c.points.ensures.value c.points.ensures.shape)
