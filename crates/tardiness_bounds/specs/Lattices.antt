-- The positions that the plates of a yard have for the turned footprints of its blocks.
use Rattle.std.specs.Prelude.{◌≡◌, ℕ, ◌+◌, ◌*◌, ◌/◌, ◌%◌, ◌<◌, ◌≤◌, ◌↔◌, List, length, Some, slice_get}
use Rattle.shape_exact.specs.Yards.{IsPlate, PlainYard}
use Rattle.shape_exact.specs.Shapes.{reach_x, reach_y}
use Rattle.shape_exact.specs.declared.plate.Plate.{Plate}
use Rattle.shape_exact.specs.declared.point.Point.{Point}
use Rattle.tardiness_bounds.specs.declared.lattice.Lattice.{Lattice}
use Rattle.tardiness_bounds.specs.Footprints.{footprint_at, turned_count}

-- the rows are those at which the shape is within the height of the plate, and the columns those at which it is within the width
pub record IsLattice (plate : Plate) (shape : List Point) (l : Lattice) : Type 0 where
  pub pitch : l.pitch ≡ plate.pitch
  pub rows : (k : ℕ) → (k < l.rows) ↔ (k * plate.pitch + reach_y shape ≤ plate.height)
  pub columns : (k : ℕ) → (k < l.columns) ↔ (k * plate.pitch + reach_x shape ≤ plate.width)
  pub few_rows : l.rows ≤ 401
  pub few_columns : l.columns ≤ 401

-- the lattice of the plate with this number for the footprint with that number
pub record IsLatticeAt (yard : PlainYard) (number moving : ℕ) (l : Lattice) : Type 0 where
  pub plate : Plate
  pub plate_is : slice_get yard.plates number ≡ Some plate
  pub limits : IsPlate yard.days plate
  pub lattice : IsLattice plate (footprint_at yard moving) l

-- the lattices of one plate after another: of each those for all turned footprints of the blocks
pub record AreLattices (yard : PlainYard) (lattices : List Lattice) : Type 0 where
  pub len : length lattices ≡ length yard.plates * turned_count yard
  pub each : (k : ℕ) (l : Lattice) → slice_get lattices k ≡ Some l → IsLatticeAt yard (k / turned_count yard) (k % turned_count yard) l
