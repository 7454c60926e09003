-- The placements of a stretch, from the sums and the grid of its stand.
use Rattle.std.proofs.Common.{◌≡◌, ℕ, ◌+◌, ◌-◌, ◌*◌, ◌/◌, ◌%◌, ◌≤◌, ◌<◌, List, length, get_or, Some, sym, ap, ◌∙◌, subst, arith, false}
use Rattle.std.specs.Prelude.{slice_get, unwrap_or}
use Rattle.std.proofs.lemmas.Option.{slice_get_within}
use Rattle.common_lists.proofs.ListLaws.{element_at}
use Rattle.shape_exact.specs.Yards.{PlainYard, IsYard, IsBlock}
use Rattle.shape_exact.specs.declared.block.Block.{Block}
use Rattle.shape_exact.specs.declared.plate.Plate.{Plate}
use Rattle.shape_exact.specs.declared.point.Point.{Point}
use Rattle.shape_exact.specs.Shapes.{turned, reach_x, reach_y}
use Rattle.code_table.specs.declared.placement.Placement.{Placement}
use Rattle.code_table.specs.declared.spot.Spot.{Spot}
use Rattle.code_table.specs.declared.stretch.Stretch.{Stretch}
use Rattle.code_table.specs.Placements.{placed, placements, placements_of}
use Rattle.code_table.specs.Grids.{columns}
use Rattle.code_table.specs.Stands.{EndsOn, nth_stand, stand_start, stand_plate, stand_turn, sum_to}
use Rattle.code_table.specs.Stretches.{HasEach, IsStretch, nth_place}
use Rattle.code_table.specs.Tables.{IsSums}
use Rattle.code_table.proofs.ListedLaws.{listed-grid}
use Rattle.code_table.proofs.OrderLaws.{one_code}
use Rattle.code_table.proofs.PlacedLaws.{placed-facts}
use Rattle.code_table.proofs.ReadLaws.{block_limits, plate_limits, stand-allowed, stand_of}
use Rattle.code_table.proofs.SpotLaws.{InRange, Places, in_range, in_stand, places, spot_at}
use Rattle.code_table.proofs.StandLaws.{placements-of, stand-get, stand_grid, sum_to-le, sum_to-more}

-- a stretch with the numbers of a stand, its end, and the plate and the turned shape that were read
pub record IsOfStand (yard : PlainYard) (block : Block) (sums : List ℕ) (k : ℕ) (plate : Plate) (shape : List Point) (s : Stretch) : Type 0 where
  pub lo_is : s.lo ≡ get_or sums k 0
  pub hi_is : s.hi ≡ get_or sums (k + 1) 0
  pub start_is : s.place.start ≡ stand_start yard k
  pub plate_is : s.place.plate ≡ stand_plate yard k
  pub turn_is : s.place.turn ≡ stand_turn yard k
  pub starts : s.place.start < yard.days
  pub turns : s.place.turn < 4
  pub ends : EndsOn yard block s.place.start s.place.plate s.place.end
  pub plate_at : slice_get yard.plates s.place.plate ≡ Some plate
  pub shaped : shape ≡ turned s.place.turn block.shape
  pub columns_are : s.columns ≡ columns plate shape
  pub pitch_is : s.pitch ≡ plate.pitch
  pub corner : (s.place.y ≡ 0) × (s.place.x ≡ 0)

-- a code's place in a stretch
abbrev spot_in : Stretch → ℕ → Spot
spot_in s code = record {
  start = s.place.start;
  end = s.place.end;
  plate = s.place.plate;
  turn = s.place.turn;
  rest = code - s.lo;
}

stretch_places : (yard : PlainYard) (block : Block) (sums : List ℕ) (k : ℕ) (plate : Plate) (shape : List Point) (s : Stretch) (code : ℕ)
    → IsYard yard → IsBlock block → IsSums yard block sums → k + 1 < length sums → IsOfStand yard block sums k plate shape s
    → s.lo ≤ code → code < s.hi → Places yard block code (spot_in s code) plate shape
stretch_places yard block sums k plate shape s code y b all within of low high =
    let lo = of.lo_is in let hi = of.hi_is in
    let (stand, rest, at) = in_stand yard block sums k code all within (omega arith) (omega arith) in
    let same : code - get_or sums k 0 ≡ code - s.lo = ap (λ n. code - n) (sym lo) in
    places yard block code (spot_in s code) plate shape y b
    (spot_at yard block code k (spot_in s code) of.start_is of.plate_is of.turn_is of.starts of.turns of.ends (omega arith)
    (subst (λ n. slice_get (placements_of yard block) code ≡ slice_get (nth_stand yard block k) n) same at))
    of.plate_at of.shaped

-- where the stand's spot is, with the stretch's own columns and pitch
nth_is : (s : Stretch) (code c p : ℕ) → s.columns ≡ c → s.pitch ≡ p
    → placed s.place.start s.place.end s.place.plate s.place.turn ((code - s.lo) / c * p) ((code - s.lo) % c * p) ≡ nth_place s code
nth_is s code c p e f =
    ap (λ c. placed s.place.start s.place.end s.place.plate s.place.turn ((code - s.lo) / c * p) ((code - s.lo) % c * p)) (sym e)
    ∙ ap (λ p. placed s.place.start s.place.end s.place.plate s.place.turn ((code - s.lo) / s.columns * p) ((code - s.lo) % s.columns * p)) (sym f)

-- the codes between two sums are a stretch
pub stretch_is : (yard : PlainYard) (block : Block) (sums : List ℕ) (k : ℕ) (plate : Plate) (shape : List Point) (s : Stretch)
    → IsYard yard → IsBlock block → IsSums yard block sums → k + 1 < length sums → IsOfStand yard block sums k plate shape s → s.lo < s.hi
    → IsStretch (placements_of yard block) s
stretch_is yard block sums k plate shape s y b all within of some =
    let first = stretch_places yard block sums k plate shape s s.lo y b all within of (omega arith) some in
    let long = all.len in
    let last = all.counted (k + 1) (omega arith) in
    let most = sum_to-le yard block (k + 1) (omega arith) in
    let hi = of.hi_is in
    record {
      within = omega arith;
      corner = of.corner;
      columns = (let c = of.columns_are in let d = first.some in omega arith);
      each = λ code low high.
          (stretch_places yard block sums k plate shape s code y b all within of low high).at
          ∙ ap Some (nth_is s code (columns plate shape) plate.pitch of.columns_are of.pitch_is);
    }

-- a placement with the start, the plate and the turn of the stand is one of them
pub stretch_all : (yard : PlainYard) (block : Block) (sums : List ℕ) (k : ℕ) (plate : Plate) (shape : List Point) (s : Stretch)
    → IsYard yard → IsSums yard block sums → k + 1 < length sums → IsOfStand yard block sums k plate shape s → HasEach (placements_of yard block) s
stretch_all yard block sums k plate shape s y all within of code p at start on turn =
    let is = placed-facts yard block code p at in
    let pitch = (plate_limits yard p.plate is.plate y is.plate_is).pitch.0 in
    let (i, x_is) = is.x_step in
    let (j, y_is) = is.y_step in
    let stand : nth_stand yard block k ≡ stand_grid block is.plate p.start p.end p.plate p.turn =
    stand_of yard block k p.start p.plate p.turn (start ∙ of.start_is) (on ∙ of.plate_is) (turn ∙ of.turn_is)
    ∙ stand-allowed yard block p.start p.plate p.turn is.plate p.end is.released is.plate_is is.end_is (ap (λ o. unwrap_or o false) is.allowed) in
    let (r, in_grid) = listed-grid is.plate (reach_y (turned p.turn block.shape)) (reach_x (turned p.turn block.shape)) j i p.y p.x
    (placed p.start p.end p.plate p.turn) pitch y_is x_is is.y_fits is.x_fits in
    let there = ap (λ ps. slice_get ps r) stand ∙ in_grid in
    let inside = slice_get_within (nth_stand yard block k) r p there in
    let long = all.len in
    let same = one_code yard block code (sum_to yard block k + r) p y at (stand-get yard block k r (omega arith) inside ∙ there) in
    let more = sum_to-more yard block k in
    let low = all.counted k (omega arith) in
    let high = all.counted (k + 1) (omega arith) in
    let lo = of.lo_is in
    let hi = of.hi_is in
    (omega arith, omega arith)

-- they end within the days
pub stretch_end : (yard : PlainYard) (block : Block) (sums : List ℕ) (k : ℕ) (plate : Plate) (shape : List Point) (s : Stretch)
    → IsYard yard → IsBlock block → IsSums yard block sums → k + 1 < length sums → IsOfStand yard block sums k plate shape s → s.lo < s.hi
    → s.place.end < yard.days
stretch_end yard block sums k plate shape s y b all within of some =
    (stretch_places yard block sums k plate shape s s.lo y b all within of (omega arith) some).range.end

-- a placement of a block is within the limits
pub in_limits : (yard : PlainYard) (b code : ℕ) (p : Placement) → IsYard yard → b < length yard.blocks → slice_get (placements yard b) code ≡ Some p
    → InRange yard p
in_limits yard b code p y l at =
    let (block, is) = element_at yard.blocks b l in
    in_range yard block p y (block_limits yard b block y is)
    (placed-facts yard block code p (ap (λ ps. slice_get ps code) (sym (placements-of yard b block is)) ∙ at))

-- and so are those of a stretch
pub stretch_limits : (yard : PlainYard) (b code : ℕ) (s : Stretch) → IsYard yard → b < length yard.blocks → IsStretch (placements yard b) s
    → s.lo ≤ code → code < s.hi → InRange yard (nth_place s code)
stretch_limits yard b code s y l is low high = in_limits yard b code (nth_place s code) y l (is.each code low high)
