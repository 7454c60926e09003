use Rattle.std.proofs.Common.{◌≤◌, length, take}
use Rattle.std.specs.Prelude.{All}
use Rattle.tardiness_bounds.specs.Neighbours.{AreNear, IsNeighbour}
use Rattle.tardiness_bounds.proofs.near.near_blocks.Given as goal

-- those of the first blocks that are near
abbrev pub invariant-loop-f : goal.invariant-loop-f
invariant-loop-f l = record {
  few : length l.near.items ≤ l.f-index;
  near : AreNear l.tables.yard l.place (take l.f-index l.list) 0 l.near.items;
  each : All (IsNeighbour l.tables.yard) l.near.items;
}
