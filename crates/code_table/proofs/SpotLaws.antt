-- The placement of a code, from the sums and the grid of its stand.
use Rattle.std.proofs.Common.{◌≡◌, ℕ, ◌+◌, ◌-◌, ◌*◌, ◌≤◌, ◌<◌, List, [], length, get_or, Some, sym, ap, ◌∙◌, subst, arith, false, inl, inr}
use Rattle.std.specs.Prelude.{slice_get, unwrap_or}
use Rattle.std.proofs.lemmas.Bool.{cases_Bool, cases_lt}
use Rattle.std.proofs.lemmas.Nat.{mul-le}
use Rattle.std.proofs.lemmas.Option.{same_Some, slice_get_within}
use Rattle.common_lists.proofs.ListLaws.{element_at}
use Rattle.shape_exact.specs.Yards.{PlainYard, IsYard, IsPlate, IsBlock}
use Rattle.shape_exact.specs.declared.block.Block.{Block}
use Rattle.shape_exact.specs.declared.plate.Plate.{Plate}
use Rattle.shape_exact.specs.declared.point.Point.{Point}
use Rattle.shape_exact.specs.Shapes.{turned, reach_x, reach_y}
use Rattle.code_table.specs.declared.placement.Placement.{Placement}
use Rattle.code_table.specs.declared.spot.Spot.{Spot}
use Rattle.code_table.specs.Placements.{placed, placements_of, placements, own_cost, cost_of, cost_on, IsPlacement}
use Rattle.plate_calendar.proofs.DayLaws.{end_law}
use Rattle.code_table.specs.Grids.{rows, columns}
use Rattle.code_table.specs.Stands.{stands, sum_to, stand_at, nth_stand, stand_start, stand_plate, stand_turn, EndsOn}
use Rattle.code_table.specs.Tables.{IsSums}
use Rattle.code_table.specs.Spots.{IsSpot, spot_grid, spot_placement}
use Rattle.code_table.proofs.GridLaws.{get-grid, length-grid_of}
use Rattle.code_table.proofs.StandLaws.{placements-of, length-placements, get-stand}
use Rattle.code_table.proofs.ReadLaws.{plate_limits, block_limits, stand_of, stand-allowed, stand-turnless}
use Rattle.code_table.proofs.PlacedLaws.{placed-facts}

-- where there is a placement, there is a stand
pub some_stand : (yard : PlainYard) (block : Block) (code : ℕ) → code < length (placements_of yard block) → 1 ≤ stands yard
some_stand yard block code l =
    let e = length-placements yard block in
    elim (cases_lt 0 (stands yard)) [
      | inl some ↦ some
      | inr none ↦
          let z : sum_to yard block (stands yard) ≡ sum_to yard block 0 = ap (sum_to yard block) (let n : stands yard ≡ 0 = omega arith in n) in
          omega arith
    ]

-- there are few stands
pub few_stands : (yard : PlainYard) → IsYard yard → stands yard ≤ 12800
few_stands yard y =
    let d = y.days in let p = y.few_plates in
    let m = mul-le yard.days (length yard.plates * 4) 400 32 (omega arith) (omega arith) in omega arith

-- a code between two sums is a place of the stand between them
pub in_stand : (yard : PlainYard) (block : Block) (sums : List ℕ) (k code : ℕ) → IsSums yard block sums → k + 1 < length sums
    → get_or sums k 0 ≤ code → code < get_or sums (k + 1) 0
    → (k < stands yard) × (code - get_or sums k 0 < length (nth_stand yard block k))
    × (slice_get (placements_of yard block) code ≡ slice_get (nth_stand yard block k) (code - get_or sums k 0))
in_stand yard block sums k code s l low high =
    let long = s.len in
    let within : k < stands yard = omega arith in
    let here = s.counted k (omega arith) in
    let next = s.counted (k + 1) (omega arith) in
    let (m, at) = get-stand yard block k code (code - get_or sums k 0) within (omega arith) (omega arith) in
    (within, m, at)

-- a stand with placements is not empty
pub not_empty : (yard : PlainYard) (block : Block) (k rest start p turn : ℕ) → start ≡ stand_start yard k → p ≡ stand_plate yard k
    → turn ≡ stand_turn yard k → rest < length (nth_stand yard block k) → stand_at yard block start p turn ≡ [] → ⊥
not_empty yard block k rest start p turn a b c l none =
    let e : length (nth_stand yard block k) ≡ 0 = ap length (stand_of yard block k start p turn a b c ∙ none) in omega arith

-- the spot of a code in a stand with an end
pub spot_at : (yard : PlainYard) (block : Block) (code k : ℕ) (s : Spot) → s.start ≡ stand_start yard k → s.plate ≡ stand_plate yard k
    → s.turn ≡ stand_turn yard k → s.start < yard.days → s.turn < 4 → EndsOn yard block s.start s.plate s.end
    → s.rest < length (nth_stand yard block k) → slice_get (placements_of yard block) code ≡ slice_get (nth_stand yard block k) s.rest
    → IsSpot yard block code s
spot_at yard block code k s a b c l m e within at =
    let stand = stand_of yard block k s.start s.plate s.turn a b c in
    elim (cases_Bool (unwrap_or (slice_get block.turns s.turn) false)) [
      | inl allowed ↦
          let is : nth_stand yard block k ≡ spot_grid block e.plate s =
          stand ∙ stand-allowed yard block s.start s.plate s.turn e.plate s.end e.released e.plate_is e.end_is allowed in
          record {
            plate = e.plate;
            plate_is = e.plate_is;
            start = l;
            released = e.released;
            end_is = e.end_is;
            turn = m;
            allowed = allowed;
            within = (let n = ap length is in omega arith);
            at = at ∙ ap (λ ps. slice_get ps s.rest) is;
          }
      | inr not_allowed ↦
          absurd (not_empty yard block k s.rest s.start s.plate s.turn a b c within
          (stand-turnless yard block s.start s.plate s.turn e.plate s.end e.released e.plate_is e.end_is not_allowed))
    ]

-- the placement of a code, by two divisions
pub spot_is : (yard : PlainYard) (block : Block) (code : ℕ) (s : Spot) (e : IsSpot yard block code s) → 0 < e.plate.pitch
    → slice_get (placements_of yard block) code ≡ Some (spot_placement e.plate (turned s.turn block.shape) s)
spot_is yard block code s e pitch =
    e.at ∙ get-grid e.plate (reach_y (turned s.turn block.shape)) (reach_x (turned s.turn block.shape)) (placed s.start s.end s.plate s.turn)
    s.rest pitch e.within

-- its row has positions
pub some_columns : (yard : PlainYard) (block : Block) (code : ℕ) (s : Spot) (e : IsSpot yard block code s) → 0 < e.plate.pitch
    → 0 < columns e.plate (turned s.turn block.shape)
some_columns yard block code s e pitch =
    let n = length-grid_of e.plate (reach_y (turned s.turn block.shape)) (reach_x (turned s.turn block.shape)) (placed s.start s.end s.plate s.turn) pitch in
    let w = e.within in
    elim (cases_lt 0 (columns e.plate (turned s.turn block.shape))) [
      | inl some ↦ some
      | inr none ↦
          let z : columns e.plate (turned s.turn block.shape) ≡ 0 = omega arith in
          let m : rows e.plate (turned s.turn block.shape) * columns e.plate (turned s.turn block.shape) ≡ rows e.plate (turned s.turn block.shape) * 0 =
          ap (λ c. rows e.plate (turned s.turn block.shape) * c) z in
          omega arith
    ]

-- it is a placement of the block
pub spot_facts : (yard : PlainYard) (block : Block) (code : ℕ) (s : Spot) (e : IsSpot yard block code s) → 0 < e.plate.pitch
    → IsPlacement yard block (spot_placement e.plate (turned s.turn block.shape) s)
spot_facts yard block code s e pitch = placed-facts yard block code _ (spot_is yard block code s e pitch)

-- what a placement's numbers are below
pub record InRange (yard : PlainYard) (p : Placement) : Type 0 where
  pub plate : p.plate < length yard.plates
  pub turn : p.turn < 4
  pub start : p.start < yard.days
  pub end : p.end < yard.days
  pub order : p.start ≤ p.end
  pub x : p.x ≤ 400
  pub y : p.y ≤ 400

pub in_range : (yard : PlainYard) (block : Block) (p : Placement) → IsYard yard → IsBlock block → IsPlacement yard block p → InRange yard p
in_range yard block p y b is =
    let limits = plate_limits yard p.plate is.plate y is.plate_is in
    let width = limits.width in let height = limits.height in
    let x = is.x_fits in let z = is.y_fits in
    let (order, end, n) = end_law yard.days p.start block.duration p.end is.plate.closed b.duration.0 is.end_is in
    record {
      plate = slice_get_within yard.plates p.plate is.plate is.plate_is;
      turn = is.turn;
      start = is.start;
      end = end;
      order = order;
      x = omega arith;
      y = omega arith;
    }

-- what a spot gives with the plate and the turned shape that were read
pub record Places (yard : PlainYard) (block : Block) (code : ℕ) (s : Spot) (plate : Plate) (shape : List Point) : Type 0 where
  pub limits : IsPlate yard.days plate
  pub some : 0 < columns plate shape
  pub at : slice_get (placements_of yard block) code ≡ Some (spot_placement plate shape s)
  pub facts : IsPlacement yard block (spot_placement plate shape s)
  pub range : InRange yard (spot_placement plate shape s)

places_itself : (yard : PlainYard) (block : Block) (code : ℕ) (s : Spot) → IsYard yard → IsBlock block → (e : IsSpot yard block code s)
    → Places yard block code s e.plate (turned s.turn block.shape)
places_itself yard block code s y b e =
    let limits = plate_limits yard s.plate e.plate y e.plate_is in
    let facts = spot_facts yard block code s e limits.pitch.0 in
    record {
      limits = limits;
      some = some_columns yard block code s e limits.pitch.0;
      at = spot_is yard block code s e limits.pitch.0;
      facts = facts;
      range = in_range yard block _ y b facts;
    }

pub places : (yard : PlainYard) (block : Block) (code : ℕ) (s : Spot) (plate : Plate) (shape : List Point) → IsYard yard → IsBlock block
    → IsSpot yard block code s → slice_get yard.plates s.plate ≡ Some plate → shape ≡ turned s.turn block.shape
    → Places yard block code s plate shape
places yard block code s plate shape y b e at is =
    let same : e.plate ≡ plate = same_Some e.plate plate (sym e.plate_is ∙ at) in
    let own = places_itself yard block code s y b e in
    subst (λ sh. Places yard block code s plate sh) (sym is)
    (subst (λ pl. Places yard block code s pl (turned s.turn block.shape)) same own)

-- a spot's plate exists
pub spot_plate : (yard : PlainYard) (block : Block) (code : ℕ) (s : Spot) → IsSpot yard block code s → s.plate < length yard.plates
spot_plate yard block code s e = slice_get_within yard.plates s.plate e.plate e.plate_is

-- what the code of a spot costs
pub spot_cost : (yard : PlainYard) (b code : ℕ) (block : Block) (s : Spot) → IsYard yard → slice_get yard.blocks b ≡ Some block
    → IsSpot yard block code s → own_cost yard b code ≡ cost_on block s.end
spot_cost yard b code block s y at e =
    let own = places_itself yard block code s y (block_limits yard b block y at) e in
    ap (λ o. cost_of o (slice_get (placements yard b) code)) at
    ∙ ap (λ ps. cost_of (Some block) (slice_get ps code)) (placements-of yard b block at) ∙ ap (cost_of (Some block)) own.at

-- the same for a block by its number
pub placed_code : (yard : PlainYard) (b code : ℕ) (s : Spot) (plate : Plate) (shape : List Point) → IsYard yard → b < length yard.blocks
    → ((block : Block) → slice_get yard.blocks b ≡ Some block → IsSpot yard block code s) → slice_get yard.plates s.plate ≡ Some plate
    → ((block : Block) → slice_get yard.blocks b ≡ Some block → shape ≡ turned s.turn block.shape)
    → (block : Block) × (slice_get yard.blocks b ≡ Some block) × Places yard block code s plate shape
placed_code yard b code s plate shape y l spot at shaped =
    let (block, is) = element_at yard.blocks b l in
    (block, is, places yard block code s plate shape y (block_limits yard b block y is) (spot block is) at (shaped block is))

-- the plate and the turn of a spot exist
pub spot_exists : (yard : PlainYard) (b code : ℕ) (s : Spot) → b < length yard.blocks
    → ((block : Block) → slice_get yard.blocks b ≡ Some block → IsSpot yard block code s) → (s.plate < length yard.plates) × (s.turn < 4)
spot_exists yard b code s l spot =
    let (block, is) = element_at yard.blocks b l in let e = spot block is in (spot_plate yard block code s e, e.turn)

-- its end is below 400
pub spot_end : (yard : PlainYard) (b code : ℕ) (block : Block) (s : Spot) → IsYard yard → slice_get yard.blocks b ≡ Some block
    → IsSpot yard block code s → s.end < 400
spot_end yard b code block s y at e =
    let own = places_itself yard block code s y (block_limits yard b block y at) e in
    let end = own.range.end in let d = y.days in omega arith
