-- The placements of a stand.
use Rattle.std.proofs.Common.{◌≡◌, ℕ, suc, ◌+◌, ◌*◌, ◌/◌, ◌%◌, ◌≤◌, ◌<◌, List, [], length, Option, Some, None, refl, ap, ◌∙◌, subst, arith, Bool, true, false}
use Rattle.std.specs.Prelude.{slice_get, nat_le, unwrap_or}
use Rattle.std.proofs.Math.Nat.{mul_comm}
use Rattle.std.proofs.lemmas.Bool.{le-leb, lt-leb}
use Rattle.std.proofs.lemmas.Nat.{div-mul-add, mod-mul-add, mul-add-lt}
use Rattle.shape_exact.specs.Yards.{PlainYard}
use Rattle.shape_exact.specs.declared.block.Block.{Block}
use Rattle.shape_exact.specs.declared.plate.Plate.{Plate}
use Rattle.shape_exact.specs.Shapes.{turned, reach_x, reach_y}
use Rattle.plate_calendar.specs.Calendars.{open_days, end_of}
use Rattle.common_lists.specs.Each.{when, for_some}
use Rattle.common_lists.proofs.EachLaws.{length-each, get-each, sum-front_le}
use Rattle.code_table.specs.declared.placement.Placement.{Placement}
use Rattle.code_table.specs.Placements.{placed, grid_of, placements_of, placements}
use Rattle.code_table.specs.Stands.{sum_to, stand_at, nth_stand, stands}
use Rattle.code_table.proofs.FlatLaws.{placements-stands}

-- the end of a stand, where it has one
abbrev pub stand_end : PlainYard → Block → ℕ → Plate → Option ℕ
stand_end yard block start plate = end_of (open_days yard.days plate.closed) start block.duration

-- the grid of a stand
abbrev pub stand_grid : Block → Plate → ℕ → ℕ → ℕ → ℕ → List Placement
stand_grid block plate start end p turn =
    grid_of plate (reach_y (turned turn block.shape)) (reach_x (turned turn block.shape)) (placed start end p turn)

-- a start before the release has no placement
pub stand-early : (yard : PlainYard) (block : Block) (start p turn : ℕ) → start < block.release → stand_at yard block start p turn ≡ []
unfolding stand_at
stand-early yard block start p turn l =
    ap (λ b. when b (for_some (slice_get yard.plates p) (λ plate. for_some (stand_end yard block start plate) (λ end.
    when (unwrap_or (slice_get block.turns turn) false) (stand_grid block plate start end p turn))))) (lt-leb block.release start l)

when-nil : {A : Type 0} (b : Bool) → when {A = A} b [] ≡ []
when-nil true = refl
when-nil false = refl

-- a start without an end has none
pub stand-endless : (yard : PlainYard) (block : Block) (start p turn : ℕ) (plate : Plate) → slice_get yard.plates p ≡ Some plate
    → stand_end yard block start plate ≡ None → stand_at yard block start p turn ≡ []
unfolding stand_at
stand-endless yard block start p turn plate at none =
    ap (λ o. when (nat_le block.release start) (for_some o (λ plate. for_some (stand_end yard block start plate) (λ end.
    when (unwrap_or (slice_get block.turns turn) false) (stand_grid block plate start end p turn))))) at
    ∙ ap (λ o. when (nat_le block.release start) (for_some o (λ end.
    when (unwrap_or (slice_get block.turns turn) false) (stand_grid block plate start end p turn)))) none
    ∙ when-nil (nat_le block.release start)

-- with an end, a stand has the grid where the block may stand in the turn
pub stand-ends : (yard : PlainYard) (block : Block) (start p turn : ℕ) (plate : Plate) (end : ℕ) → block.release ≤ start
    → slice_get yard.plates p ≡ Some plate → stand_end yard block start plate ≡ Some end
    → stand_at yard block start p turn ≡ when (unwrap_or (slice_get block.turns turn) false) (stand_grid block plate start end p turn)
unfolding stand_at
stand-ends yard block start p turn plate end l at is =
    ap (λ b. when b (for_some (slice_get yard.plates p) (λ plate. for_some (stand_end yard block start plate) (λ end.
    when (unwrap_or (slice_get block.turns turn) false) (stand_grid block plate start end p turn))))) (le-leb block.release start l)
    ∙ ap (λ o. for_some o (λ plate. for_some (stand_end yard block start plate) (λ end.
    when (unwrap_or (slice_get block.turns turn) false) (stand_grid block plate start end p turn)))) at
    ∙ ap (λ o. for_some o (λ end.
    when (unwrap_or (slice_get block.turns turn) false) (stand_grid block plate start end p turn))) is

-- the placements of a block that exists
pub placements-of : (yard : PlainYard) (b : ℕ) (block : Block) → slice_get yard.blocks b ≡ Some block → placements yard b ≡ placements_of yard block
placements-of yard b block is = ap (λ o. for_some o (placements_of yard)) is

-- the sum over all stands is the number of placements
pub length-placements : (yard : PlainYard) (block : Block) → length (placements_of yard block) ≡ sum_to yard block (stands yard)
length-placements yard block =
    ap length (placements-stands yard block) ∙ length-each (stands yard) (nth_stand yard block)

-- the placements of one stand more
pub sum_to-more : (yard : PlainYard) (block : Block) (k : ℕ) → sum_to yard block (k + 1) ≡ sum_to yard block k + length (nth_stand yard block k)
sum_to-more yard block k = ap (sum_to yard block) (let e : k + 1 ≡ suc k = omega arith in e)

-- the first stands have no more than all
pub sum_to-le : (yard : PlainYard) (block : Block) (k : ℕ) → k ≤ stands yard → sum_to yard block k ≤ length (placements_of yard block)
sum_to-le yard block k l =
    let a = sum-front_le k (stands yard) (λ k. length (nth_stand yard block k)) l in
    let b = length-placements yard block in omega arith

-- a place in a stand is a code
pub stand-get : (yard : PlainYard) (block : Block) (k rest : ℕ) → k < stands yard → rest < length (nth_stand yard block k)
    → slice_get (placements_of yard block) (sum_to yard block k + rest) ≡ slice_get (nth_stand yard block k) rest
stand-get yard block k rest l m =
    ap (λ ps. slice_get ps (sum_to yard block k + rest)) (placements-stands yard block)
    ∙ get-each (stands yard) k rest (nth_stand yard block) l m

-- a code is a place in the stand whose sums it lies between
pub get-stand : (yard : PlainYard) (block : Block) (k code rest : ℕ) → k < stands yard → code ≡ sum_to yard block k + rest
    → code < sum_to yard block (k + 1)
    → (rest < length (nth_stand yard block k)) × (slice_get (placements_of yard block) code ≡ slice_get (nth_stand yard block k) rest)
get-stand yard block k code rest l is high =
    let more = sum_to-more yard block k in
    let m : rest < length (nth_stand yard block k) = omega arith in
    (m, ap (slice_get (placements_of yard block)) is ∙ stand-get yard block k rest l m)

-- the number of a stand is its start, plate and turn
pub stand-number : (yard : PlainYard) (block : Block) (start p turn : ℕ) → start < yard.days → p < length yard.plates → turn < 4
    → (start * (length yard.plates * 4) + (p * 4 + turn) < stands yard)
    × (nth_stand yard block (start * (length yard.plates * 4) + (p * 4 + turn)) ≡ stand_at yard block start p turn)
unfolding nth_stand
stand-number yard block start p turn l m q =
    let n : ℕ = length yard.plates * 4 in
    let j : ℕ = p * 4 + turn in
    let small : j < n = omega arith in
    let whole : (start * n + j) / n ≡ start = div-mul-add start n j small in
    let part : (start * n + j) % n ≡ j = mod-mul-add start n j small in (
      subst (λ m. start * n + j < m) (mul_comm n yard.days) (mul-add-lt start n j yard.days l small),
      ap (λ s. stand_at yard block s ((start * n + j) % n / 4) ((start * n + j) % n % 4)) whole
          ∙ ap (λ j. stand_at yard block start (j / 4) (j % 4)) part
          ∙ ap (λ p. stand_at yard block start p (j % 4)) (div-mul-add p 4 turn q)
          ∙ ap (stand_at yard block start p) (mod-mul-add p 4 turn q),
    )
