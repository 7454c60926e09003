-- A piece that keeps its rules stands inside its plate.
use Rattle.std.proofs.Common.{◌≡◌, ◌<◌, ◌≤◌, ◌+◌, ℕ, Bool, true, false, List, Option, Some, None, Result, Ok, Err, refl, sym, subst, arith}
use Rattle.std.specs.Prelude.{IfOk, if◌then◌else◌, nat_le, slice_get}
use Rattle.std.proofs.lemmas.Bool.Decides.{nat_tests}
use Rattle.common_lists.proofs.ListLaws.{both_true}
use Rattle.shape_exact.specs.Shapes.{IsShape, reach_x, reach_y}
use Rattle.shape_exact.specs.Yards.{IsPiece, LiesWithin}
use Rattle.shape_exact.specs.declared.fixed.Fixed.{Fixed}
use Rattle.shape_exact.specs.declared.plate.Plate.{Plate}
use Rattle.yard_file.specs.Pieces.{in_plate, is_in_plate}
use Rattle.yard_file.specs.declared.fault.YardFault.{YardFault}
use Rattle.yard_file.specs.declared.fault.YardFault.TheVariants.{FixedOutside}

lies_within : (n : ℕ) (f : Fixed) (p : Plate) → is_in_plate f (Some p) ≡ true → f.from ≤ f.to → f.to < n → LiesWithin n p f
lies_within n f p inside order days =
    let b = both_true (nat_le (f.x + reach_x f.shape) p.width) (nat_le (f.y + reach_y f.shape) p.height) inside in
    let wide = b.0 in
    let high = b.1 in record { order = order; days = days; wide = grind (arith, nat_tests); high = grind (arith, nat_tests) }

-- a piece that lies in its plate, on days that are in order, is a piece of the yard
piece_of_plate : (n : ℕ) (plates : List Plate) (i : ℕ) (f g : Fixed) → Ok g ≡ in_plate plates i f → IsShape g.shape
    → f.from ≤ f.to → f.to < n → IsPiece n plates g
piece_of_plate n plates i f g is shape order days = by (slice_get plates f.plate) refl
  where
    within : (p : Plate) → slice_get plates f.plate ≡ Some p → (b : Bool) → is_in_plate f (Some p) ≡ b
        → Ok g ≡ (if b then Ok f else Err (FixedOutside i)) → IsPiece n plates g
    within p there true inside same =
        let e : f ≡ g = cc in
        let footprint : IsShape f.shape = subst (λ (h : Fixed). IsShape h.shape) (sym e) shape in
        subst (IsPiece n plates) e (record { plate = p; plate_is = there; shape = footprint; within = lies_within n f p inside order days })
    within p there false outside same = cc

    by : (o : Option Plate) → slice_get plates f.plate ≡ o → IsPiece n plates g
    by None none = let wrong : Ok g ≡ Err (FixedOutside i) = rw none at is in cc
    by (Some p) there = within p there (is_in_plate f (Some p)) refl (rw there at is)

pub piece_of_yard : (n m : ℕ) (plates those : List Plate) (i : ℕ) (f g : Fixed) → n ≡ m → plates ≡ those → Ok g ≡ in_plate plates i f
    → IsShape g.shape → (f.from ≤ f.to) × (f.to < n) → IsPiece m those g
piece_of_yard n m plates those i f g days same is shape order =
    subst (λ m. IsPiece m those g) days (subst (λ ps. IsPiece n ps g) same (piece_of_plate n plates i f g is shape order.0 order.1))

-- what holds of a piece holds of an answer that is the piece
pub of_same : (r : Result Fixed YardFault) (f : Fixed) (P : Fixed → Type 0) → IfOk r (λ g. g ≡ f) → P f → IfOk r P
of_same (Ok g) f P same holds = subst P (sym same) holds
of_same (Err fault) f P same holds = tt
