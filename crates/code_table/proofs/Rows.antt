-- The definitions at a small yard.
use Rattle.std.proofs.Common.{◌≡◌, ℕ, List, [], ◌∷◌, length, true, false, refl}
use Rattle.std.specs.Prelude.{pos}
use Rattle.shape_exact.specs.Yards.{PlainYard}
use Rattle.shape_exact.specs.declared.block.Block.{Block}
use Rattle.shape_exact.specs.declared.plate.Plate.{Plate}
use Rattle.shape_exact.specs.declared.point.Point.{Point}
use Rattle.code_table.specs.Placements.{placements, own_cost}
use Rattle.shape_exact.specs.Shapes.{turned, cells}

abbrev at : ℕ → ℕ → Point
at x y = record { x = pos x; y = pos y }

abbrev square : List Point
square = at 0 0 ∷ at 2 0 ∷ at 2 2 ∷ at 0 2 ∷ []

abbrev block : Block
block = record { name = 65 ∷ []; shape = square; turns = true ∷ false ∷ false ∷ false ∷ []; duration = 2; release = 0; due = 1; weight = 1; early = 0 }

abbrev plate : Plate
plate = record { name = 80 ∷ []; width = 4; height = 3; pitch = 1; closed = [] }

abbrev y1 : PlainYard
y1 = record { days = 10; plates = plate ∷ []; blocks = block ∷ []; fixed = [] }

row_1 : length (placements y1 0) ≡ 54
row_1 = refl

four_cells : cells square ≡ 4
four_cells = refl

tri : List Point
tri = at 0 0 ∷ at 4 0 ∷ at 0 4 ∷ []

six_cells : cells (at 0 0 ∷ at 4 0 ∷ at 0 4 ∷ []) ≡ 6
six_cells = refl

six_turned : cells (turned 2 (at 0 0 ∷ at 4 0 ∷ at 0 4 ∷ [])) ≡ 6
six_turned = refl

last : own_cost y1 0 53 ≡ 8
last = refl
