-- The codes of a stand, row by row.
use Rattle.std.proofs.Common.{◌≡◌, ℕ, ◌+◌, ◌-◌, ◌*◌, ◌/◌, ◌%◌, ◌<◌, ◌≤◌, cond, List, length, get_or, map, Some, refl, sym, ap, ◌∙◌, arith, inl, inr}
use Rattle.std.specs.Prelude.{slice_get}
use Rattle.std.specs.List.{range_with_len}
use Rattle.std.proofs.lemmas.Bool.{cases_lt, le-leb, lt-leb}
use Rattle.std.proofs.lemmas.Nat.{div-add-mod', mul-le}
use Rattle.std.proofs.lemmas.Option.{same_Some}
use Rattle.std.proofs.lemmas.List.FromFn.{get_or-map-range_with_len, length-map-range_with_len}
use Rattle.shape_exact.specs.Yards.{PlainYard, IsYard}
use Rattle.shape_exact.specs.Shapes.{turned, reach_x, reach_y}
use Rattle.shape_exact.specs.declared.block.Block.{Block}
use Rattle.shape_exact.specs.declared.plate.Plate.{Plate}
use Rattle.shape_exact.specs.declared.point.Point.{Point}
use Rattle.code_table.specs.declared.placement.Placement.{Placement}
use Rattle.code_table.specs.Grids.{columns, rows, steps}
use Rattle.code_table.specs.Placements.{placed, placements_of}
use Rattle.code_table.specs.Stands.{stands, sum_to}
use Rattle.code_table.specs.Stretches.{HasEach, IsStretch, nth_place}
use Rattle.code_table.specs.Tables.{IsSums}
use Rattle.code_table.proofs.CodeLaws.{code_at, multiple, place_of_row, stand_of_placement, step_below}
use Rattle.code_table.proofs.OrderLaws.{one_code}
use Rattle.code_table.proofs.PlacedLaws.{placed-facts}
use Rattle.tardiness_bounds.specs.declared.lattice.Lattice.{Lattice}
use Rattle.tardiness_bounds.specs.declared.stand.Stand.{Stand}
use Rattle.tardiness_bounds.specs.Lattices.{IsLattice}
use Rattle.tardiness_bounds.specs.Stands.{IsGrid, IsOnStand, code_on, place_on}

-- a number of steps that leaves room for a length
step_fits : (k pitch long size : ℕ) → 0 < pitch → k < steps pitch long size → k * pitch + long ≤ size
step_fits k pitch long size p l = elim (cases_lt size long) [
  | inl less ↦ absurd (let e : steps pitch long size ≡ 0 = ap (λ b. cond b ((size - long) / pitch + 1) 0) (lt-leb long size less) in omega arith)
  | inr more ↦
      let e : steps pitch long size ≡ (size - long) / pitch + 1 = ap (λ b. cond b ((size - long) / pitch + 1) 0) (le-leb long size more) in
      let m = mul-le k pitch ((size - long) / pitch) pitch (omega arith) (omega arith) in
      let d = div-add-mod' (size - long) pitch in
      omega arith
]

-- numbers with the same numbers below them
same_number : (a b : ℕ) → ((k : ℕ) → k < a → k < b) → ((k : ℕ) → k < b → k < a) → a ≡ b
same_number a b h i = elim (cases_lt a b) [
  | inl less ↦ absurd (let m = i a less in omega arith)
  | inr more ↦ elim (cases_lt b a) [ inl less ↦ absurd (let m = h b less in omega arith) | inr other ↦ omega arith ]
]

columns_same : (plate : Plate) (shape : List Point) (l : Lattice) → 0 < plate.pitch → IsLattice plate shape l → l.columns ≡ columns plate shape
columns_same plate shape l some is =
    same_number l.columns (columns plate shape)
    (λ k below. step_below k plate.pitch (reach_x shape) plate.width some ((is.columns k).0 below))
    (λ k below. (is.columns k).1 (step_fits k plate.pitch (reach_x shape) plate.width some below))

rows_same : (plate : Plate) (shape : List Point) (l : Lattice) → 0 < plate.pitch → IsLattice plate shape l → l.rows ≡ rows plate shape
rows_same plate shape l some is =
    same_number l.rows (rows plate shape)
    (λ k below. step_below k plate.pitch (reach_y shape) plate.height some ((is.rows k).0 below))
    (λ k below. (is.rows k).1 (step_fits k plate.pitch (reach_y shape) plate.height some below))

-- how many placements the first stands have, as a list
all_sums : PlainYard → Block → List ℕ
all_sums yard block = map (λ k. sum_to yard block k) (range_with_len 0 (stands yard + 1))

below_next : (k n : ℕ) → k ≤ n → k < n + 1
below_next k n l = omega arith

all_sums_are : (yard : PlainYard) (block : Block) → IsSums yard block (all_sums yard block)
unfolding all_sums
all_sums_are yard block = record {
  len = length-map-range_with_len (λ k. sum_to yard block k) 0 (stands yard + 1);
  counted = λ k l. get_or-map-range_with_len (λ k. sum_to yard block k) 0 (stands yard + 1) k k 0 (below_next k (stands yard) l) (omega arith);
}

-- what is known of a stand of a block
pub record IsOfStretch (yard : PlainYard) (b : ℕ) (block : Block) (plate : Plate) (shape : List Point) (s : Stand) : Type 0 where
  pub limits : IsYard yard
  pub block_is : slice_get yard.blocks b ≡ Some block
  pub plate_is : slice_get yard.plates s.stretch.place.plate ≡ Some plate
  pub shape_is : shape ≡ turned s.stretch.place.turn block.shape
  pub pitch : 0 < plate.pitch
  pub lattice : IsLattice plate shape s.lattice
  pub stretch : IsStretch (placements_of yard block) s.stretch
  pub each : HasEach (placements_of yard block) s.stretch
  pub some : s.stretch.lo < s.stretch.hi

-- a code of the stretch stands at a row and a column
record IsSpotOf (s : Stand) (p : Placement) : Type 0 where
  j : ℕ
  k : ℕ
  on : IsOnStand s j k
  is : p ≡ place_on s j k

spot_on : (yard : PlainYard) (b : ℕ) (block : Block) (plate : Plate) (shape : List Point) (s : Stand) (x : ℕ) → IsOfStretch yard b block plate shape s
    → s.stretch.lo ≤ x → x < s.stretch.hi → IsSpotOf s (nth_place s.stretch x)
spot_on yard b block plate shape s x h low high =
    let is = placed-facts yard block x (nth_place s.stretch x) (h.stretch.each x low high) in
    let same : is.plate ≡ plate = same_Some is.plate plate (sym is.plate_is ∙ h.plate_is) in
    let (j, y) = is.y_step in
    let (k, v) = is.x_step in
    let y_is : (x - s.stretch.lo) / s.stretch.columns * s.stretch.pitch ≡ j * s.lattice.pitch =
    y ∙ ap (λ (q : Plate). j * q.pitch) same ∙ ap (λ p. j * p) (sym h.lattice.pitch) in
    let x_is : (x - s.stretch.lo) % s.stretch.columns * s.stretch.pitch ≡ k * s.lattice.pitch =
    v ∙ ap (λ (q : Plate). k * q.pitch) same ∙ ap (λ p. k * p) (sym h.lattice.pitch) in
    let y_plate : (x - s.stretch.lo) / s.stretch.columns * s.stretch.pitch ≡ j * plate.pitch = y ∙ ap (λ (q : Plate). j * q.pitch) same in
    let x_plate : (x - s.stretch.lo) % s.stretch.columns * s.stretch.pitch ≡ k * plate.pitch = v ∙ ap (λ (q : Plate). k * q.pitch) same in
    let high_is : is.plate.height ≡ plate.height = ap (λ (q : Plate). q.height) same in
    let wide_is : is.plate.width ≡ plate.width = ap (λ (q : Plate). q.width) same in
    let up = ap reach_y h.shape_is in
    let along = ap reach_x h.shape_is in
    let y_fits = is.y_fits in
    let x_fits = is.x_fits in
    record {
      j = j;
      k = k;
      on = ((h.lattice.rows j).1 (omega arith), (h.lattice.columns k).1 (omega arith));
      is = ap (λ y. placed s.stretch.place.start s.stretch.place.end s.stretch.place.plate s.stretch.place.turn y ((x - s.stretch.lo) % s.stretch.columns * s.stretch.pitch)) y_is
          ∙ ap (λ x. placed s.stretch.place.start s.stretch.place.end s.stretch.place.plate s.stretch.place.turn (j * s.lattice.pitch) x) x_is;
    }

-- the code of a row and a column, from the sum before its stand
sum_code : (yard : PlainYard) (b : ℕ) (block : Block) (plate : Plate) (shape : List Point) (s : Stand) (j k : ℕ) → IsOfStretch yard b block plate shape s → IsOnStand s j k
    → slice_get (placements_of yard block)
    (get_or (all_sums yard block) (s.stretch.place.start * (length yard.plates * 4) + (s.stretch.place.plate * 4 + s.stretch.place.turn)) 0 + (j * columns plate shape + k))
    ≡ Some (place_on s j k)
sum_code yard b block plate shape s j k h on =
    let first = placed-facts yard block s.stretch.lo (nth_place s.stretch s.stretch.lo) (h.stretch.each s.stretch.lo (omega arith) h.some) in
    let has = stand_of_placement yard block (nth_place s.stretch s.stretch.lo) first in
    let c = columns_same plate shape s.lattice h.pitch h.lattice in
    let r = rows_same plate shape s.lattice h.pitch h.lattice in
    let row = on.0 in
    let column = on.1 in
    let e = h.lattice.pitch in
    code_at yard block (all_sums yard block) (place_on s j k) plate shape _ (j * columns plate shape + k) h.limits (all_sums_are yard block)
    (record { start = has.start; turn = has.turn; allowed = has.allowed; ends = has.ends }) h.plate_is h.shape_is
    (place_of_row plate shape j k (j * s.lattice.pitch) (k * s.lattice.pitch) (j * columns plate shape + k) (omega arith) (omega arith)
    (ap (λ p. j * p) (sym e)) (ap (λ p. k * p) (sym e)) refl) refl

-- the stretch begins at that sum
begins : (yard : PlainYard) (b : ℕ) (block : Block) (plate : Plate) (shape : List Point) (s : Stand) → IsOfStretch yard b block plate shape s
    → s.stretch.lo ≡ get_or (all_sums yard block) (s.stretch.place.start * (length yard.plates * 4) + (s.stretch.place.plate * 4 + s.stretch.place.turn)) 0
begins yard b block plate shape s h =
    let n : ℕ = get_or (all_sums yard block) (s.stretch.place.start * (length yard.plates * 4) + (s.stretch.place.plate * 4 + s.stretch.place.turn)) 0 in
    let spot = spot_on yard b block plate shape s s.stretch.lo h (omega arith) h.some in
    let low : 0 < s.lattice.rows = (let o = spot.on.0 in omega arith) in
    let left : 0 < s.lattice.columns = (let o = spot.on.1 in omega arith) in
    let nothing : s.stretch.lo - s.stretch.lo ≡ 0 = omega arith in
    let down : (s.stretch.lo - s.stretch.lo) / s.stretch.columns * s.stretch.pitch ≡ 0 * s.lattice.pitch =
    ap (λ n. n / s.stretch.columns * s.stretch.pitch) nothing ∙ ap (λ q. q * s.stretch.pitch) (multiple 0 s.stretch.columns 0 h.stretch.columns (omega arith)) ∙ omega arith in
    let back : (s.stretch.lo - s.stretch.lo) % s.stretch.columns * s.stretch.pitch ≡ 0 * s.lattice.pitch =
    ap (λ n. n % s.stretch.columns * s.stretch.pitch) nothing
    ∙ ap (λ q. q * s.stretch.pitch) (let d = div-add-mod' 0 s.stretch.columns in let z = multiple 0 s.stretch.columns 0 h.stretch.columns (omega arith) in let m : 0 / s.stretch.columns * s.stretch.columns ≡ 0 * s.stretch.columns = ap (λ q. q * s.stretch.columns) z in (let r : 0 % s.stretch.columns ≡ 0 = omega arith in r)) ∙ omega arith in
    let at : slice_get (placements_of yard block) s.stretch.lo ≡ Some (place_on s 0 0) =
    h.stretch.each s.stretch.lo (omega arith) h.some
    ∙ ap (λ y. Some (placed s.stretch.place.start s.stretch.place.end s.stretch.place.plate s.stretch.place.turn y ((s.stretch.lo - s.stretch.lo) % s.stretch.columns * s.stretch.pitch))) down
    ∙ ap (λ x. Some (placed s.stretch.place.start s.stretch.place.end s.stretch.place.plate s.stretch.place.turn (0 * s.lattice.pitch) x)) back in
    let there = sum_code yard b block plate shape s 0 0 h (low, left) in
    let zeros : 0 * columns plate shape + 0 ≡ 0 = omega arith in
    one_code yard block s.stretch.lo (n + (0 * columns plate shape + 0)) (place_on s 0 0) h.limits at there ∙ omega arith

-- the stretch is a grid
pub grid_of_stretch : (yard : PlainYard) (b : ℕ) (block : Block) (plate : Plate) (shape : List Point) (s : Stand) → IsOfStretch yard b block plate shape s
    → IsGrid (placements_of yard block) s
grid_of_stretch yard b block plate shape s h =
    let c = columns_same plate shape s.lattice h.pitch h.lattice in
    let at : (j k : ℕ) → IsOnStand s j k → slice_get (placements_of yard block) (code_on s j k) ≡ Some (place_on s j k) = λ j k on.
    ap (λ n. slice_get (placements_of yard block) (n + (j * s.lattice.columns + k))) (begins yard b block plate shape s h)
    ∙ ap (λ c. slice_get (placements_of yard block) (get_or (all_sums yard block) (s.stretch.place.start * (length yard.plates * 4) + (s.stretch.place.plate * 4 + s.stretch.place.turn)) 0 + (j * c + k))) c
    ∙ sum_code yard b block plate shape s j k h on in
    record {
      at = at;
      within = λ j k on. (h.each (code_on s j k) (place_on s j k) (at j k on) refl refl refl).1;
      each = λ x low high.
          let spot = spot_on yard b block plate shape s x h low high in (
            spot.j,
            spot.k,
            spot.on,
            one_code yard block x (code_on s spot.j spot.k) (place_on s spot.j spot.k) h.limits (h.stretch.each x low high ∙ ap Some spot.is) (at spot.j spot.k spot.on),
          );
      all = h.stretch.within;
    }
