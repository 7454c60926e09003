use Rattle.std.proofs.Common.{◌≡◌, ◌<◌}
use Rattle.tardiness_bounds.specs.Neighbours.{obstacles_of}
use Rattle.tardiness_bounds.proofs.RowLaws.{HasNoClearFrom}
use Rattle.tardiness_bounds.proofs.ground.first_clear.Given as goal

-- no position of the rows so far is clear; the next row begins at the given column, the later ones at their first
abbrev pub invariant-loop-row : goal.invariant-loop-row
invariant-loop-row l = record {
  none : HasNoClearFrom (obstacles_of l.tables.yard l.moving l.near) l.lattice.pitch l.row l.lattice.columns l.fn.from.0 l.fn.from.1;
  here : l.row ≡ l.fn.from.0 → l.column ≡ l.fn.from.1;
  later : l.fn.from.0 < l.row → l.column ≡ 0;
}
