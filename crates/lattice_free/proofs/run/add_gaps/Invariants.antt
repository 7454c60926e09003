use Rattle.std.proofs.Common.{◌≡◌, ◌++◌, drop}
use Rattle.lattice_free.specs.Gaps.{gaps}
use Rattle.lattice_free.proofs.run.add_gaps.Given as goal

abbrev pub invariant-loop-s : goal.invariant-loop-s
invariant-loop-s l = l.runs.items ++ gaps l.row l.from l.columns (drop l.s-index l.forbidden) ≡ l.initial.runs.items ++ gaps l.row 0 l.columns l.forbidden
