use Rattle.std.proofs.Common.{subst, sym, ℕ}
use Rattle.lattice_free.specs.Left.{AreLeft}
use Rattle.lattice_free.proofs.LeftLaws.{left_whole}
use Rattle.lattice_free.proofs.free_points.FreePoints.of.Goals as goal

pub invariant_of-result : goal.invariant_of-result
invariant_of-result c = subst (λ (k : ℕ). AreLeft c.args.pitch k c.args.runs.now) (sym c.first_column.ensures) (left_whole c.args.pitch c.args.runs.now c.requires.steps c.requires.each)
