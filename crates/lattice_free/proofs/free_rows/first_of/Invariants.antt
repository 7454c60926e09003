use Rattle.std.proofs.Common.{◌≡◌, drop, find}
use Rattle.lattice_free.specs.Order.{is_from}
use Rattle.lattice_free.specs.Runs.{points_of}
use Rattle.lattice_free.proofs.free_rows.first_of.Given as goal

abbrev pub invariant-loop-run : goal.invariant-loop-run
invariant-loop-run l =
    find (is_from l.y l.x) (points_of l.pitch (drop l.run-index l.runs)) ≡ find (is_from l.y l.x) (points_of l.pitch l.runs)
