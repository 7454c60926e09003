use Rattle.std.proofs.Common.{◌≤◌, length, take}
use Rattle.lattice_free.specs.Clear.{AreForbidden}
use Rattle.tardiness_bounds.specs.Neighbours.{obstacles_of}
use Rattle.tardiness_bounds.proofs.ground.forbid.Given as goal

-- the forbidden of the first neighbours
abbrev pub invariant-loop-n : goal.invariant-loop-n
invariant-loop-n l = record {
  few : length l.forbidden.items ≤ l.n-index;
  forbidden : AreForbidden (take l.n-index (obstacles_of l.tables.yard l.moving l.near)) l.pitch l.row l.columns l.forbidden.items;
}
