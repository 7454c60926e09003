-- The lattices of a yard, by their numbers.
use Rattle.std.proofs.Common.{◌≡◌, ℕ, ◌+◌, ◌*◌, ◌/◌, ◌%◌, ◌<◌, List, length, get_or, Fits, w16, ap, ◌∙◌, subst, arith}
use Rattle.std.specs.Prelude.{Some, slice_get}
use Rattle.std.proofs.lemmas.Nat.{div-mul-add, mod-mul-add, mul-add-lt}
use Rattle.std.proofs.lemmas.Option.{slice_get-get_or}
use Rattle.std.proofs.Math.Nat.{mul_comm}
use Rattle.shape_exact.specs.Yards.{PlainYard}
use Rattle.shape_exact.specs.Shapes.{turned}
use Rattle.shape_exact.specs.declared.block.Block.{Block}
use Rattle.tardiness_bounds.specs.declared.lattice.Lattice.{Lattice}
use Rattle.tardiness_bounds.specs.Footprints.{footprint_at, turned_count}
use Rattle.tardiness_bounds.specs.Lattices.{AreLattices, IsLatticeAt}
use Rattle.tardiness_bounds.proofs.ClashLaws.{shape_is, turned_is}

-- the number of a lattice tells its plate and its footprint
pub lattice_within : (yard : PlainYard) (list here : List Lattice) (a b turned : ℕ) → AreLattices yard list → turned ≡ turned_count yard → here ≡ list
    → a < length yard.plates → b < turned_count yard → a * turned + b < length here
lattice_within yard list here a b turned are e same la lb =
    let number : a * turned + b ≡ a * turned_count yard + b = ap (λ s. a * s + b) e in
    let m = mul-add-lt a (turned_count yard) b (length yard.plates) la lb in
    let c = mul_comm (turned_count yard) (length yard.plates) in
    let l = are.len in
    let long = ap length same in
    omega arith

pub lattice_read : (yard : PlainYard) (list here : List Lattice) (a b turned : ℕ) (d : Lattice) → AreLattices yard list → turned ≡ turned_count yard → here ≡ list
    → a < length yard.plates → b < turned_count yard → IsLatticeAt yard a b (get_or here (a * turned + b) d)
lattice_read yard list here a b turned d are e same la lb =
    let k : ℕ = a * turned + b in
    let number : k ≡ a * turned_count yard + b = ap (λ s. a * s + b) e in
    let f : k / turned_count yard ≡ a = ap (λ k. k / turned_count yard) number ∙ div-mul-add a (turned_count yard) b lb in
    let m : k % turned_count yard ≡ b = ap (λ k. k % turned_count yard) number ∙ mod-mul-add a (turned_count yard) b lb in
    let read : slice_get list k ≡ Some (get_or here k d) =
    subst (λ ls. slice_get ls k ≡ Some (get_or here k d)) same (slice_get-get_or here k d (lattice_within yard list here a b turned are e same la lb)) in
    subst (λ i. IsLatticeAt yard i b (get_or here k d)) f
    (subst (λ j. IsLatticeAt yard (k / turned_count yard) j (get_or here k d)) m (are.each k (get_or here k d) read))

-- the positions of a lattice are small
pub row_fits : (yard : PlainYard) (number moving k : ℕ) (l : Lattice) → IsLatticeAt yard number moving l → k < l.rows → Fits w16 (k * l.pitch)
row_fits yard number moving k l at below =
    let h = (at.lattice.rows k).0 below in
    let e = ap (λ p. k * p) at.lattice.pitch in
    let m = at.limits.height.1 in
    omega arith

pub column_fits : (yard : PlainYard) (number moving k : ℕ) (l : Lattice) → IsLatticeAt yard number moving l → k < l.columns → Fits w16 (k * l.pitch)
column_fits yard number moving k l at below =
    let h = (at.lattice.columns k).0 below in
    let e = ap (λ p. k * p) at.lattice.pitch in
    let m = at.limits.width.1 in
    omega arith

-- the turned footprint of a block is its shape in the turn
pub shape_in : (yard : PlainYard) (b turn : ℕ) (block : Block) → b < length yard.blocks → turn < 4 → slice_get yard.blocks b ≡ Some block
    → footprint_at yard (b * 4 + turn) ≡ turned turn block.shape
shape_in yard b turn block l t at = turned_is yard b turn l t ∙ ap (turned turn) (shape_is yard b block at)
