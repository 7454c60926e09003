use Rattle.std.proofs.Common.{◌≤◌, ◌+◌, length}
use Rattle.std.specs.Prelude.{All}
use Rattle.tardiness_bounds.specs.Neighbours.{AreNear, IsNeighbour}
use Rattle.tardiness_bounds.proofs.near.near_to.Given as goal

-- the blocks, and those of the first pieces, that are near
abbrev pub invariant-loop-i : goal.invariant-loop-i
invariant-loop-i l = record {
  few : length l.near.items ≤ 32 + l.i;
  near : AreNear l.tables.yard l.place l.list l.i l.near.items;
  each : All (IsNeighbour l.tables.yard) l.near.items;
}
