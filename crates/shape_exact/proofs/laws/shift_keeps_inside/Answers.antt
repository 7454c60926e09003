use Rattle.shape_exact.proofs.ApartLaws.{inside-moved}
use Rattle.shape_exact.proofs.laws.shift_keeps_inside.Goals as goal

pub returns : goal.returns
returns c = λ s. inside-moved c.args.shape.now c.args.at c.args.by s
