-- The positions of a shape on a plate.
use Rattle.std.specs.Prelude.{ℕ, ◌+◌, ◌-◌, ◌*◌, ◌/◌, ◌%◌, ◌<◌, ◌≡◌, List, nat_le, if◌then◌else◌}
use Rattle.shape_exact.specs.Shapes.{reach_x, reach_y}
use Rattle.shape_exact.specs.declared.plate.Plate.{Plate}
use Rattle.shape_exact.specs.declared.point.Point.{Point}

-- how many multiples of a pitch leave room for a length within a size
abbrev pub steps : ℕ → ℕ → ℕ → ℕ
steps pitch long size = if nat_le long size then (size - long) / pitch + 1 else 0

-- how many positions in a row, and how many rows, a plate has for a shape
abbrev pub columns : Plate → List Point → ℕ
columns plate shape = steps plate.pitch (reach_x shape) plate.width

abbrev pub rows : Plate → List Point → ℕ
rows plate shape = steps plate.pitch (reach_y shape) plate.height

-- the k-th position of a plate for a shape, row by row
abbrev pub IsPlaceOf : Plate → List Point → ℕ → ℕ → ℕ → Type 0
IsPlaceOf plate shape k y x =
    (k < rows plate shape * columns plate shape) × (k / columns plate shape * plate.pitch ≡ y) × (k % columns plate shape * plate.pitch ≡ x)

-- no row and column of the plate for the shape are there
abbrev pub IsNoPosition : Plate → List Point → ℕ → ℕ → Type 0
IsNoPosition plate shape y x =
    (j i : ℕ) → j < rows plate shape → i < columns plate shape → j * plate.pitch ≡ y → i * plate.pitch ≡ x → ⊥
