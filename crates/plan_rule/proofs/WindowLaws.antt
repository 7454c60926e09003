-- What a window, a block and its least raise are in a yard.
use Rattle.std.proofs.Common.{◌≡◌, ℕ, Some, ◌*◌, max, min, List, arith, ◌<◌, sym, ap, ◌∙◌, None, false, Option, ◌-◌, refl}
use Rattle.std.specs.Prelude.{slice_get, is_none, nat_le, ◌&&◌, IfSome}
use Rattle.std.proofs.lemmas.Option.{same_Some}
use Rattle.std.specs.Option.{option_map_or}
use Rattle.shape_exact.specs.Yards.{PlainYard}
use Rattle.shape_exact.specs.declared.block.Block.{Block}
use Rattle.shape_exact.specs.Shapes.{cells}
use Rattle.shape_exact.specs.declared.plate.Plate.{Plate}
use Rattle.plate_calendar.specs.Calendars.{open_between, open_days}
use Rattle.code_table.specs.declared.placement.Placement.{Placement}
use Rattle.code_table.specs.Placements.{placements}
use Rattle.code_table.specs.Costs.{lesser}
use Rattle.plan_rule.specs.Choices.{blocks, Choices, count, IsCode}
use Rattle.plan_rule.specs.Yards.{choices, plate_days, taken, taken_by}
use Rattle.plan_rule.specs.declared.literal.Literal.{Literal}
use Rattle.plan_rule.specs.Fronts.{HasCodes}
use Rattle.plan_rule.specs.Bounds.{IsBase, MayTake, IsRaise, presses}
use Rattle.plan_rule.proofs.RestLaws.{least_at}
use Rattle.plan_rule.proofs.UniqueLaws.{least_unique}
use Rattle.plan_rule.proofs.YardLaws.{coded}
use Rattle.plan_rule.specs.Boxes.{exact_code, HasExact}

-- the figures of a block
pub release_is : (yard : PlainYard) (b : ℕ) (block : Block) → slice_get yard.blocks b ≡ Some block → (choices yard).release b ≡ block.release
unfolding choices
release_is yard b block at = ap (λ o. option_map_or (λ block. block.release) o 0) at

pub due_is : (yard : PlainYard) (b : ℕ) (block : Block) → slice_get yard.blocks b ≡ Some block → (choices yard).due b ≡ block.due
unfolding choices
due_is yard b block at = ap (λ o. option_map_or (λ block. block.due) o 0) at

pub weight_is : (yard : PlainYard) (b : ℕ) (block : Block) → slice_get yard.blocks b ≡ Some block → (choices yard).weight b ≡ block.weight
unfolding choices
weight_is yard b block at = ap (λ o. option_map_or (λ block. block.weight) o 0) at

pub work_is : (yard : PlainYard) (b : ℕ) (block : Block) → slice_get yard.blocks b ≡ Some block → (choices yard).work b ≡ block.duration * cells block.shape
unfolding choices
work_is yard b block at = ap (λ o. option_map_or (λ block. block.duration * cells block.shape) o 0) at

pub days_are : (yard : PlainYard) → (choices yard).days ≡ yard.days
unfolding choices
days_are yard = refl

-- what a code takes
pub taken_is : (yard : PlainYard) (first last b code : ℕ) (block : Block) (p : Placement) (plate : Plate) → slice_get yard.blocks b ≡ Some block
    → slice_get (placements yard b) code ≡ Some p → slice_get yard.plates p.plate ≡ Some plate
    → (choices yard).taken first last b code ≡ plate_days yard (max first p.start) (min last p.end) plate * cells block.shape
unfolding choices taken
taken_is yard first last b code block p plate at is on =
    ap (λ o. taken_by yard first last o (slice_get (placements yard b) code)) at
    ∙ ap (taken_by yard first last (Some block)) is
    ∙ ap (λ o. option_map_or (plate_days yard (max first p.start) (min last p.end)) o 0 * cells block.shape) on

-- where a base is a number, each block has a code
pub codes_of_base : (c : Choices) (side : List Literal) (k : ℕ) → IsBase c side (Some k) → HasCodes c
codes_of_base c side k h b l =
    let (m, is) = least_at (MayTake c side) c.cost (blocks c) b k l h in
    let (x, may, cost) = is.0 in let w = may.0 in
    omega arith

pub same_raise : (c : Choices) (last b v w : ℕ) → IsRaise c last b v → IsRaise c last b w → v ≡ w
same_raise c last b v w (m, hm, e) (n, hn, f) =
    let a = least_unique (λ code. code < count c b) (c.cost b) m n hm hn in omega arith

-- what a code takes, by its figures as they were read
pub taken_of : (yard : PlainYard) (first last b code from to days area : ℕ) (p : Placement) (opens : List ℕ) → IsCode (choices yard) b code
    → slice_get (placements yard b) code ≡ Some p → days ≡ open_between opens from to → from ≡ max first p.start → to ≡ min last p.end
    → ((q : Plate) → slice_get yard.plates p.plate ≡ Some q → opens ≡ open_days yard.days q.closed)
    → ((block : Block) → slice_get yard.blocks b ≡ Some block → area ≡ cells block.shape)
    → days * area ≡ (choices yard).taken first last b code
taken_of yard first last b code from to days area p opens within is days_is from_is to_is opens_are area_is =
    let c = coded yard b code within.0 within.1 in
    let same : c.p ≡ p = same_Some c.p p (sym c.p_is ∙ is) in
    let on : slice_get yard.plates p.plate ≡ Some c.is.plate = ap (λ (p : Placement). slice_get yard.plates p.plate) (sym same) ∙ c.is.plate_is in
    let d : days ≡ plate_days yard (max first p.start) (min last p.end) c.is.plate =
    days_is ∙ ap (λ f. open_between opens f to) from_is ∙ ap (λ t. open_between opens (max first p.start) t) to_is
    ∙ ap (λ o. open_between o (max first p.start) (min last p.end)) (opens_are c.is.plate on) in
    ap (λ d. d * area) d ∙ ap (λ a. plate_days yard (max first p.start) (min last p.end) c.is.plate * a) (area_is c.block c.block_is)
    ∙ sym (taken_is yard first last b code c.block p c.is.plate c.block_is is on)

-- whether a block presses, by its figures
pub presses_free : (yard : PlainYard) (side : List Literal) (first last b : ℕ) (block : Block) → exact_code side b ≡ None → slice_get yard.blocks b ≡ Some block
    → presses (choices yard) side first last b ≡ (nat_le first block.release && nat_le block.due last)
presses_free yard side first last b block free at =
    ap (λ o. is_none o && nat_le first ((choices yard).release b) && nat_le ((choices yard).due b) last) free
    ∙ ap (λ r. nat_le first r && nat_le ((choices yard).due b) last) (release_is yard b block at)
    ∙ ap (λ d. nat_le first block.release && nat_le d last) (due_is yard b block at)

pub presses_exact : (c : Choices) (side : List Literal) (first last b d : ℕ) → HasExact side b d → presses c side first last b ≡ false
presses_exact c side first last b d fix = ap (λ o. is_none o && nat_le first (c.release b) && nat_le (c.due b) last) fix

-- the less of two small numbers is small
pub lesser_few : (n : ℕ) (a b : Option ℕ) → IfSome a (λ v. v < n) → IfSome b (λ v. v < n) → IfSome (lesser a b) (λ v. v < n)
lesser_few n None b f g = g
lesser_few n (Some u) None f g = f
lesser_few n (Some u) (Some v) f g = omega arith
