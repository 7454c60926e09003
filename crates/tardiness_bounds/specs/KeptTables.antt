-- What the tables of a yard keep.
use Rattle.std.specs.Prelude.{ℕ, ℤ, List, Option}
use Rattle.shape_exact.specs.Yards.{PlainYard}
use Rattle.minkowski_obstacles.specs.Pairs.{Pair}
use Rattle.tardiness_bounds.specs.declared.lattice.Lattice.{Lattice}
use Rattle.tardiness_bounds.specs.declared.left.Left.{Left}
use Rattle.tardiness_bounds.specs.declared.stretches.StretchList.{StretchList}
use Rattle.tardiness_bounds.specs.declared.tables.SlotList.{SlotList}
use Rattle.tardiness_bounds.specs.Lattices.{AreLattices}
use Rattle.tardiness_bounds.specs.Lefts.{AreFirstLefts}
use Rattle.tardiness_bounds.specs.Obstacles.{AreObstacles}
use Rattle.tardiness_bounds.specs.Rows.{AreRows}
use Rattle.tardiness_bounds.specs.Tables.{AreAllSlots, AreAllStretches, lists_of}

-- the slots and the stretches of each block, all lattices, all obstacles, and their rows; and what is left to the first blocks where none stands
pub record AreTables (yard : PlainYard) (slots : List SlotList) (stretches : List StretchList) (lattices : List Lattice) (obstacles : List Pair)
    (reach : ℕ) (rows : List (Option (ℤ × ℤ))) (lefts : List Left) : Type 0 where
  pub slots_are : AreAllSlots yard slots
  pub stretches_are : AreAllStretches yard stretches
  pub lattices_are : AreLattices yard lattices
  pub obstacles_are : AreObstacles yard obstacles
  pub rows_are : AreRows obstacles reach rows
  pub lefts_are : AreFirstLefts (record { yard = yard; slots = lists_of slots }) lefts
