use Rattle.std.proofs.Common.{◌≡◌, length, take}
use Rattle.lattice_free.specs.Runs.{points_of}
use Rattle.lattice_free.proofs.free_rows.count_of.Given as goal

abbrev pub invariant-loop-run : goal.invariant-loop-run
invariant-loop-run l = l.total ≡ length (points_of l.pitch (take l.run-index l.runs))
