-- The code of a placement, from its stand and its position.
use Rattle.std.proofs.Common.{◌≡◌, ℕ, ◌+◌, ◌-◌, ◌*◌, ◌/◌, ◌%◌, ◌≤◌, ◌<◌, List, length, get_or, Some, None, sym, ap, ◌∙◌, subst, arith, true, false, cond, eqb}
use Rattle.std.specs.Prelude.{slice_get, unwrap_or, IsTrue}
use Rattle.std.proofs.lemmas.Bool.{le-leb, eqb-true, eq-eqb}
use Rattle.std.proofs.lemmas.Nat.{div-mul-add, mod-mul-add, le-div, mul-add-lt}
use Rattle.std.proofs.lemmas.Option.{same_Some, slice_get_within, unwrap_or-slice_get}
use Rattle.shape_exact.specs.Yards.{PlainYard, IsYard}
use Rattle.shape_exact.specs.declared.block.Block.{Block}
use Rattle.shape_exact.specs.declared.plate.Plate.{Plate}
use Rattle.shape_exact.specs.declared.point.Point.{Point}
use Rattle.shape_exact.specs.Shapes.{turned, reach_x, reach_y}
use Rattle.code_table.specs.declared.placement.Placement.{Placement}
use Rattle.code_table.specs.Codes.{IsCode, HasStand}
use Rattle.code_table.specs.Grids.{steps, rows, columns, IsPlaceOf, IsNoPosition}
use Rattle.code_table.specs.Placements.{placed, placements_of, IsPlacement}
use Rattle.code_table.specs.Stands.{stands, nth_stand, EndsOn}
use Rattle.code_table.specs.Tables.{IsSums}
use Rattle.code_table.proofs.GridLaws.{get-grid, length-grid_of}
use Rattle.code_table.proofs.StandLaws.{stand_grid, stand-get, stand-number}
use Rattle.code_table.proofs.ReadLaws.{one_end, stand-allowed, same_plate, plate_limits}
use Rattle.code_table.proofs.PlacedLaws.{placed-facts}
use Rattle.code_table.proofs.OrderLaws.{one_code}

-- what stays within a size has its step
pub step_below : (k pitch long size : ℕ) → 0 < pitch → k * pitch + long ≤ size → k < steps pitch long size
step_below k pitch long size p l =
    let q = le-div k (size - long) pitch p (omega arith) in
    let e : steps pitch long size ≡ (size - long) / pitch + 1 = ap (λ b. cond b ((size - long) / pitch + 1) 0) (le-leb long size (omega arith)) in
    omega arith

-- a placement has its stand
pub stand_of_placement : (yard : PlainYard) (block : Block) (p : Placement) → IsPlacement yard block p → HasStand yard block p
stand_of_placement yard block p is = record {
  start = is.start;
  turn = is.turn;
  allowed = ap (λ o. unwrap_or o false) is.allowed;
  ends = record { plate = is.plate; plate_is = is.plate_is; released = is.released; end_is = is.end_is };
}

-- a multiple of the pitch is the pitch times its quotient
pub multiple : (j pitch y : ℕ) → 0 < pitch → j * pitch ≡ y → y / pitch ≡ j
multiple j pitch y p e =
    ap (λ n. n / pitch) (let f : y ≡ j * pitch + 0 = omega arith in f) ∙ div-mul-add j pitch 0 p

-- the place of a row and a column
pub place_of_row : (plate : Plate) (shape : List Point) (row column y x k : ℕ) → row < rows plate shape → column < columns plate shape
    → row * plate.pitch ≡ y → column * plate.pitch ≡ x → k ≡ row * columns plate shape + column → IsPlaceOf plate shape k y x
place_of_row plate shape row column y x k l m ey ex is =
    let c : ℕ = columns plate shape in
    let r : ℕ = rows plate shape in
    let small : row * c + column < c * r = mul-add-lt row c column r l m in
    let turned' : c * r ≡ r * c = omega arith in (
      omega arith,
      ap (λ k. k / c * plate.pitch) is ∙ ap (λ q. q * plate.pitch) (div-mul-add row c column m) ∙ ey,
      ap (λ k. k % c * plate.pitch) is ∙ ap (λ q. q * plate.pitch) (mod-mul-add row c column m) ∙ ex,
    )

-- off the pitch, above the last row, or past the last column, there is no position
pub off_rows : (plate : Plate) (shape : List Point) (y x : ℕ) → 0 < plate.pitch → (y / plate.pitch * plate.pitch ≡ y → ⊥) → IsNoPosition plate shape y x
off_rows plate shape y x p off = λ j i l m ey ex. off (ap (λ q. q * plate.pitch) (multiple j plate.pitch y p ey) ∙ ey)

pub off_columns : (plate : Plate) (shape : List Point) (y x : ℕ) → 0 < plate.pitch → (x / plate.pitch * plate.pitch ≡ x → ⊥) → IsNoPosition plate shape y x
off_columns plate shape y x p off = λ j i l m ey ex. off (ap (λ q. q * plate.pitch) (multiple i plate.pitch x p ex) ∙ ex)

-- a placement has a row and a column
pub position_of_placement : (yard : PlainYard) (block : Block) (p : Placement) (plate : Plate) (shape : List Point) → IsYard yard
    → IsPlacement yard block p → slice_get yard.plates p.plate ≡ Some plate → shape ≡ turned p.turn block.shape
    → IsNoPosition plate shape p.y p.x → ⊥
position_of_placement yard block p plate shape y is at shaped none =
    let same : is.plate ≡ plate = same_Some is.plate plate (sym is.plate_is ∙ at) in
    let limits = plate_limits yard p.plate is.plate y is.plate_is in
    let (i, x_is) = is.x_step in
    let (j, y_is) = is.y_step in
    let x_fits = is.x_fits in
    let y_fits = is.y_fits in
    let row = step_below j is.plate.pitch (reach_y (turned p.turn block.shape)) is.plate.height limits.pitch.0 (omega arith) in
    let column = step_below i is.plate.pitch (reach_x (turned p.turn block.shape)) is.plate.width limits.pitch.0 (omega arith) in
    let own : IsNoPosition is.plate (turned p.turn block.shape) p.y p.x =
    subst (λ pl. IsNoPosition pl (turned p.turn block.shape) p.y p.x) (sym same) (subst (λ sh. IsNoPosition plate sh p.y p.x) shaped none) in
    own j i row column (sym y_is) (sym x_is)

-- no code without a stand
pub no_stand : (yard : PlainYard) (block : Block) (p : Placement) → (HasStand yard block p → ⊥) → IsCode (placements_of yard block) p None
no_stand yard block p none = λ d at. none (stand_of_placement yard block p (placed-facts yard block d p at))

-- nor without a position
pub no_position : (yard : PlainYard) (block : Block) (p : Placement) (plate : Plate) (shape : List Point) → IsYard yard
    → slice_get yard.plates p.plate ≡ Some plate → shape ≡ turned p.turn block.shape → IsNoPosition plate shape p.y p.x
    → IsCode (placements_of yard block) p None
no_position yard block p plate shape y at shaped none = λ d is.
    position_of_placement yard block p plate shape y (placed-facts yard block d p is) at shaped none

-- the placement at a place of a stand's grid
grid_placement : (block : Block) (plate : Plate) (p : Placement) (k : ℕ) → 0 < plate.pitch → IsPlaceOf plate (turned p.turn block.shape) k p.y p.x
    → slice_get (stand_grid block plate p.start p.end p.plate p.turn) k ≡ Some p
grid_placement block plate p k pitch (within, y, x) =
    let high : ℕ = reach_y (turned p.turn block.shape) in
    let long : ℕ = reach_x (turned p.turn block.shape) in
    let n = length-grid_of plate high long (placed p.start p.end p.plate p.turn) pitch in
    get-grid plate high long (placed p.start p.end p.plate p.turn) k pitch (omega arith)
    ∙ ap (λ y. Some (placed p.start p.end p.plate p.turn y (k % steps plate.pitch long plate.width * plate.pitch))) y
    ∙ ap (λ x. Some (placed p.start p.end p.plate p.turn p.y x)) x

-- the sum before a stand and the place in it are the code
pub code_at : (yard : PlainYard) (block : Block) (sums : List ℕ) (p : Placement) (plate : Plate) (shape : List Point) (n k : ℕ) → IsYard yard
    → IsSums yard block sums → HasStand yard block p → slice_get yard.plates p.plate ≡ Some plate → shape ≡ turned p.turn block.shape
    → IsPlaceOf plate shape k p.y p.x → n ≡ p.start * (length yard.plates * 4) + (p.plate * 4 + p.turn)
    → slice_get (placements_of yard block) (get_or sums n 0 + k) ≡ Some p
code_at yard block sums p plate shape n k y s has at shaped place is =
    let own : IsPlaceOf plate (turned p.turn block.shape) k p.y p.x = subst (λ sh. IsPlaceOf plate sh k p.y p.x) shaped place in
    let pitch = (plate_limits yard p.plate plate y at).pitch.0 in
    let l = slice_get_within yard.plates p.plate plate at in
    let (within, stand) = stand-number yard block p.start p.plate p.turn has.start l has.turn in
    let same : has.ends.plate ≡ plate = same_plate yard block p.start p.plate p.end plate has.ends at in
    let grid : nth_stand yard block n ≡ stand_grid block plate p.start p.end p.plate p.turn =
    ap (nth_stand yard block) is ∙ stand
    ∙ stand-allowed yard block p.start p.plate p.turn has.ends.plate p.end has.ends.released has.ends.plate_is has.ends.end_is
    has.allowed
    ∙ ap (λ pl. stand_grid block pl p.start p.end p.plate p.turn) same in
    let here : slice_get (nth_stand yard block n) k ≡ Some p =
    ap (λ ps. slice_get ps k) grid ∙ grid_placement block plate p k pitch own in
    let m : k < length (nth_stand yard block n) = slice_get_within (nth_stand yard block n) k p here in
    let n_within : n < stands yard = omega arith in
    ap (λ t. slice_get (placements_of yard block) (t + k)) (s.counted n (omega arith)) ∙ stand-get yard block n k n_within m ∙ here

-- it is the only one
pub only_code : (yard : PlainYard) (block : Block) (p : Placement) (c : ℕ) → IsYard yard → slice_get (placements_of yard block) c ≡ Some p
    → IsCode (placements_of yard block) p (Some c)
only_code yard block p c y at = (at, λ d is. one_code yard block d c p y is at)

-- a stand is one whose end is the one told
pub stand_told : (yard : PlainYard) (block : Block) (p : Placement) (end : ℕ) → p.start < yard.days → p.turn < 4
    → get_or block.turns p.turn false ≡ true → EndsOn yard block p.start p.plate end
    → (IsTrue (eqb end p.end) → HasStand yard block p) × (HasStand yard block p → IsTrue (eqb end p.end))
stand_told yard block p end l m allowed e = (
  λ same. record {
    start = l;
    turn = m;
    allowed = unwrap_or-slice_get block.turns p.turn false ∙ allowed;
    ends = subst (EndsOn yard block p.start p.plate) (eqb-true end p.end same) e;
  },
  λ has. eq-eqb end p.end (one_end yard block p.start p.plate end p.end e has.ends),
)

-- the numbers of a stand are within the yard
pub plate_within : (yard : PlainYard) (block : Block) (p : Placement) → HasStand yard block p → p.plate < length yard.plates
plate_within yard block p has = slice_get_within yard.plates p.plate has.ends.plate has.ends.plate_is
