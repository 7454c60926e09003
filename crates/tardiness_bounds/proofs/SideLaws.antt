-- What the placements of a box's exact codes tell of its blocks.
use Rattle.std.proofs.Common.{◌≡◌, ℕ, ◌<◌, Option, Some, None, true, false, length, sym, ap, ◌∙◌, arith}
use Rattle.std.specs.Prelude.{slice_get, is_some}
use Rattle.std.specs.Option.{option_map_or}
use Rattle.std.proofs.lemmas.Bool.{false≢true}
use Rattle.shape_exact.specs.Yards.{PlainYard}
use Rattle.code_table.specs.declared.placement.Placement.{Placement}
use Rattle.code_table.specs.Placements.{placements}
use Rattle.plan_rule.specs.Boxes.{HasExact, exact_code}
use Rattle.plan_rule.specs.Choices.{blocks}
use Rattle.plan_rule.specs.Yards.{choices}
use Rattle.plan_rule.proofs.CountLaws.{block_exists}
use Rattle.tardiness_bounds.specs.Sides.{AreExactPlaces, IsExactPlace, IsPlaced, PlainSide}
use Rattle.tardiness_bounds.specs.Windows.{used_by}

-- each block of the yard has its entry
pub has_entry : (yard : PlainYard) (side : PlainSide) (b : ℕ) → AreExactPlaces yard side → b < blocks (choices yard) → b < length side.places
has_entry yard side b are l = let n = are.len in let e = block_exists yard b l in omega arith

-- an entry without a placement
none_here : (yard : PlainYard) (side : PlainSide) (b : ℕ) (o : Option Placement) → IsExactPlace yard side.literals b o → is_some o ≡ false
    → exact_code side.literals b ≡ None
none_here yard side b None is e = is
none_here yard side b (Some p) is e = absurd (false≢true (sym e))

pub no_exact : (yard : PlainYard) (side : PlainSide) (b : ℕ) (o : Option Placement) → AreExactPlaces yard side → slice_get side.places b ≡ Some o
    → is_some o ≡ false → exact_code side.literals b ≡ None
no_exact yard side b o are at e = none_here yard side b o (are.each b o at) e

-- and one with a placement
some_here : (yard : PlainYard) (side : PlainSide) (b : ℕ) (o : Option Placement) → IsExactPlace yard side.literals b o → is_some o ≡ true
    → (code : ℕ) × HasExact side.literals b code
some_here yard side b None is e = absurd (false≢true e)
some_here yard side b (Some p) (code, exact, at) e = (code, exact)

pub some_exact : (yard : PlainYard) (side : PlainSide) (b : ℕ) (o : Option Placement) → AreExactPlaces yard side → slice_get side.places b ≡ Some o
    → is_some o ≡ true → (code : ℕ) × HasExact side.literals b code
some_exact yard side b o are at e = some_here yard side b o (are.each b o at) e

-- what a block uses, by its entry
pub placed_there : (yard : PlainYard) (side : PlainSide) (b : ℕ) (p : Placement) → AreExactPlaces yard side → slice_get side.places b ≡ Some (Some p)
    → IsPlaced yard b p
placed_there yard side b p are at = let (code, exact, is) = are.each b (Some p) at in (code, is)

pub used_there : (yard : PlainYard) (side : PlainSide) (first last b n : ℕ) (p : Placement) → AreExactPlaces yard side → slice_get side.places b ≡ Some (Some p)
    → ((code : ℕ) → slice_get (placements yard b) code ≡ Some p → n ≡ (choices yard).taken first last b code) → n ≡ used_by (choices yard) side.literals first last b
used_there yard side first last b n p are at is =
    let (code, exact, here) = are.each b (Some p) at in
    is code here ∙ ap (λ o. option_map_or ((choices yard).taken first last b) o 0) (sym exact)

pub unused : (yard : PlainYard) (side : PlainSide) (first last b : ℕ) → AreExactPlaces yard side → slice_get side.places b ≡ Some None
    → 0 ≡ used_by (choices yard) side.literals first last b
unused yard side first last b are at = ap (λ o. option_map_or ((choices yard).taken first last b) o 0) (sym (are.each b None at))
