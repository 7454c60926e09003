-- The plates hold the pieces and what a feasible plan puts on them, counted by plate, open day and cell.
use Rattle.std.proofs.Common.{◌≡◌, ◌≢◌, ℕ, ◌+◌, ◌-◌, ◌*◌, ◌<◌, ◌≤◌, max, min, List, length, Option, Some, None, refl, sym, ap, ◌∙◌, arith, inl, inr, Bool, true, false}
use Rattle.std.specs.Prelude.{◌&&◌, nat_le, nat_lt, ◌==◌, not, slice_get, if◌then◌else◌}
use Rattle.std.specs.Option.{option_map_or}
use Rattle.std.proofs.lemmas.Bool.{and_from, and_parts, eq-eqb, leb-true, le-leb, eqb-true, false≢true, cases_lt, lt-ltb, ltb-true}
use Rattle.std.proofs.lemmas.Option.{slice_get_within}
use Rattle.common_lists.proofs.ListLaws.{if_true}
use Rattle.shape_exact.specs.Yards.{PlainYard, IsYard, IsPiece, StandApart, piece_at}
use Rattle.shape_exact.specs.declared.fixed.Fixed.{Fixed}
use Rattle.shape_exact.proofs.YardLaws.{all_pairs_get}
use Rattle.shape_exact.specs.declared.block.Block.{Block}
use Rattle.shape_exact.specs.declared.plate.Plate.{Plate}
use Rattle.shape_exact.specs.Shapes.{is_inside, centre, turned, cells, reach_x, reach_y}
use Rattle.shape_exact.specs.Days.{has_day}
use Rattle.common_lists.specs.Each.{sum_below}
use Rattle.shape_exact.proofs.CellLaws.{cells-shift}
use Rattle.common_lists.proofs.EachLaws.{sum-agree, sum-times, sum-swap, sum-le, sum-at_most_one, sum_below-le, sum_below-const, sum-add_range}
use Rattle.plate_calendar.proofs.DayLaws.{one_if, count-sum}
use Rattle.code_table.specs.declared.placement.Placement.{Placement}
use Rattle.code_table.specs.Placements.{placements, IsPlacement}
use Rattle.plan_rule.specs.Choices.{blocks}
use Rattle.plan_rule.specs.Plans.{code_of, IsFeasible}
use Rattle.plan_rule.specs.Clashes.{place_of}
use Rattle.plan_rule.specs.Yards.{plate_days, taken_by, stood_by, choices}

-- whether a block at a placement covers a cell of a plate on a day
abbrev pub covers : Option Block → Option Placement → ℕ → ℕ → ℕ → ℕ → Bool
covers None p pl d j i = false
covers (Some block) None pl d j i = false
covers (Some block) (Some p) pl d j i =
    (p.plate == pl) && (nat_le p.start d && nat_le d p.end) && is_inside (turned p.turn block.shape) (place_of p) (centre i j)

-- whether a block of a plan does so
abbrev pub plan_covers : PlainYard → List ℕ → ℕ → ℕ → ℕ → ℕ → ℕ → Bool
plan_covers yard q b pl d j i = covers (slice_get yard.blocks b) (slice_get (placements yard b) (code_of q b)) pl d j i

-- what covers is a placement with a day and a cell
record Covered (o : Option Block) (r : Option Placement) (pl d j i : ℕ) : Type 0 where
  block : Block
  p : Placement
  block_is : o ≡ Some block
  p_is : r ≡ Some p
  plate : p.plate ≡ pl
  from : p.start ≤ d
  to : d ≤ p.end
  inside : is_inside (turned p.turn block.shape) (place_of p) (centre i j) ≡ true

covered : (o : Option Block) (r : Option Placement) (pl d j i : ℕ) → covers o r pl d j i ≡ true → Covered o r pl d j i
covered None r pl d j i e = absurd (false≢true e)
covered (Some block) None pl d j i e = absurd (false≢true e)
covered (Some block) (Some p) pl d j i e =
    let two = and_parts ((p.plate == pl) && (nat_le p.start d && nat_le d p.end)) (is_inside (turned p.turn block.shape) (place_of p) (centre i j)) e in
    let one = and_parts (p.plate == pl) (nat_le p.start d && nat_le d p.end) two.0 in
    let days = and_parts (nat_le p.start d) (nat_le d p.end) one.1 in
    record { block = block; p = p; block_is = refl; p_is = refl; plate = eqb-true _ _ one.0; from = leb-true _ _ days.0; to = leb-true _ _ days.1; inside = two.1 }

-- two blocks of a feasible plan do not cover one cell on one day
alone : (yard : PlainYard) (q : List ℕ) (a b pl d j i : ℕ) → IsFeasible (choices yard) q → a < blocks (choices yard) → b < blocks (choices yard) → a ≢ b
    → plan_covers yard q a pl d j i ≡ true → plan_covers yard q b pl d j i ≡ true → ⊥
unfolding choices
alone yard q a b pl d j i f la lb ne x y =
    let one = covered (slice_get yard.blocks a) (slice_get (placements yard a) (code_of q a)) pl d j i x in
    let two = covered (slice_get yard.blocks b) (slice_get (placements yard b) (code_of q b)) pl d j i y in
    f.clear a b la lb ne (record {
      one = one.block;
      two = two.block;
      p = one.p;
      q = two.p;
      one_is = one.block_is;
      two_is = two.block_is;
      p_is = one.p_is;
      q_is = two.p_is;
      clash = record {
        plate = one.plate ∙ sym two.plate;
        first_starts = (let u = one.from in let v = two.to in omega arith);
        second_starts = (let u = two.from in let v = one.to in omega arith);
        shapes = λ apart. apart (centre i j) (omega arith) one.inside two.inside;
      };
    })

-- what a block covers of a plate in a window
abbrev pub covered_of : PlainYard → ℕ → ℕ → Option Block → Option Placement → ℕ → Plate → ℕ
covered_of yard first last o r pl plate =
    sum_below yard.days (λ d. one_if (not (has_day d plate.closed) && (nat_le first d && nat_le d last))
    * sum_below plate.height (λ j. sum_below plate.width (λ i. one_if (covers o r pl d j i))))

abbrev pub covered_at : PlainYard → ℕ → ℕ → Option Block → Option Placement → ℕ → ℕ
covered_at yard first last o r pl = option_map_or (covered_of yard first last o r pl) (slice_get yard.plates pl) 0

-- on a day of its span a block covers at least its cells
covers_cells : (block : Block) (p : Placement) (d width height : ℕ) → cells block.shape ≤ cells (turned p.turn block.shape)
    → p.start ≤ d → d ≤ p.end
    → p.x + reach_x (turned p.turn block.shape) ≤ width → p.y + reach_y (turned p.turn block.shape) ≤ height
    → cells block.shape ≤ sum_below height (λ j. sum_below width (λ i. one_if (covers (Some block) (Some p) p.plate d j i)))
covers_cells block p d width height turn from to w h =
    let here : ((p.plate == p.plate) && (nat_le p.start d && nat_le d p.end)) ≡ true =
    and_from (p.plate == p.plate) (nat_le p.start d && nat_le d p.end) (eq-eqb p.plate p.plate refl)
    (and_from (nat_le p.start d) (nat_le d p.end) (le-leb _ _ from) (le-leb _ _ to)) in
    let shift = cells-shift (turned p.turn block.shape) p.x p.y width height w h in
    let same : sum_below height (λ j. sum_below width (λ i. one_if (is_inside (turned p.turn block.shape) (place_of p) (centre i j))))
    ≡ sum_below height (λ j. sum_below width (λ i. one_if (covers (Some block) (Some p) p.plate d j i))) =
    sum-agree height _ _ (λ j l. sum-agree width _ _ (λ i m.
    ap (λ b. one_if (b && is_inside (turned p.turn block.shape) (place_of p) (centre i j))) (sym here))) in
    omega (arith, turn, shift, same)

-- a day of the span in the window
day_le : (o a b : Bool) (cells whole : ℕ) → (a ≡ true → (b ≡ true) × (cells ≤ whole)) → one_if (o && a) * cells ≤ one_if (o && b) * whole
day_le false a b cells whole h = omega arith
day_le true true true cells whole h = let two = h refl in omega (arith, two.1)
day_le true true false cells whole h = absurd (false≢true (h refl).0)
day_le true false true cells whole h = omega arith
day_le true false false cells whole h = omega arith

-- what a code takes in a window is covered
pub taken-le : (yard : PlainYard) (block : Block) (p : Placement) (first last : ℕ) → IsPlacement yard block p → cells block.shape ≤ cells (turned p.turn block.shape)
    → taken_by yard first last (Some block) (Some p) ≤ sum_below (length yard.plates) (covered_at yard first last (Some block) (Some p))
taken-le yard block p first last is turn =
    let open' : ℕ → Bool = λ d. not (has_day d is.plate.closed) in
    let span : ℕ → Bool = λ d. nat_le (max first p.start) d && nat_le d (min last p.end) in
    let window : ℕ → Bool = λ d. nat_le first d && nat_le d last in
    let whole : ℕ → ℕ = λ d. sum_below is.plate.height (λ j. sum_below is.plate.width (λ i. one_if (covers (Some block) (Some p) p.plate d j i))) in
    let left : taken_by yard first last (Some block) (Some p) ≡ sum_below yard.days (λ d. one_if (open' d && span d) * cells block.shape) =
    ap (λ o. option_map_or (plate_days yard (max first p.start) (min last p.end)) o 0 * cells block.shape) is.plate_is
    ∙ ap (λ n. n * cells block.shape) (count-sum span open' yard.days)
    ∙ sum-times yard.days (cells block.shape) (λ d. one_if (open' d && span d)) in
    let middle : sum_below yard.days (λ d. one_if (open' d && span d) * cells block.shape) ≤ sum_below yard.days (λ d. one_if (open' d && window d) * whole d) =
    sum-le yard.days _ _ (λ d l. day_le (open' d) (span d) (window d) (cells block.shape) (whole d)
    (λ e.
    let two = and_parts (nat_le (max first p.start) d) (nat_le d (min last p.end)) e in
    let a = leb-true _ _ two.0 in let b = leb-true _ _ two.1 in (
      and_from (nat_le first d) (nat_le d last) (le-leb _ _ (omega arith)) (le-leb _ _ (omega arith)),
      covers_cells block p d is.plate.width is.plate.height turn (omega arith) (omega arith) is.x_fits is.y_fits,
    ))) in
    let here : covered_at yard first last (Some block) (Some p) p.plate ≡ sum_below yard.days (λ d. one_if (open' d && window d) * whole d) =
    ap (λ o. option_map_or (covered_of yard first last (Some block) (Some p) p.plate) o 0) is.plate_is in
    let one = sum_below-le (length yard.plates) p.plate (covered_at yard first last (Some block) (Some p)) (slice_get_within yard.plates p.plate is.plate is.plate_is) in
    omega (arith, left, middle, here, one)

pub one_if-le : (b : Bool) → one_if b ≤ 1
one_if-le true = omega arith
one_if-le false = omega arith

one_if-pos : (b : Bool) → 0 < one_if b → b ≡ true
one_if-pos true l = refl
one_if-pos false l = absurd (omega arith)

-- whether a piece covers a cell of a plate on a day
abbrev pub stands_on : Fixed → ℕ → ℕ → ℕ → ℕ → Bool
stands_on f pl d j i = (f.plate == pl) && (nat_le f.from d && nat_le d f.to) && is_inside f.shape (piece_at f) (centre i j)

-- whether the piece with this number does so
abbrev pub piece_covers : PlainYard → ℕ → ℕ → ℕ → ℕ → ℕ → Bool
piece_covers yard k pl d j i = option_map_or (λ f. stands_on f pl d j i) (slice_get yard.fixed k) false

-- what stands there is a piece with a day and a cell
record Stood (o : Option Fixed) (pl d j i : ℕ) : Type 0 where
  f : Fixed
  f_is : o ≡ Some f
  plate : f.plate ≡ pl
  from : f.from ≤ d
  to : d ≤ f.to
  inside : is_inside f.shape (piece_at f) (centre i j) ≡ true

stood : (o : Option Fixed) (pl d j i : ℕ) → option_map_or (λ f. stands_on f pl d j i) o false ≡ true → Stood o pl d j i
stood None pl d j i e = absurd (false≢true e)
stood (Some f) pl d j i e =
    let two = and_parts ((f.plate == pl) && (nat_le f.from d && nat_le d f.to)) (is_inside f.shape (piece_at f) (centre i j)) e in
    let one = and_parts (f.plate == pl) (nat_le f.from d && nat_le d f.to) two.0 in
    let days = and_parts (nat_le f.from d) (nat_le d f.to) one.1 in
    record { f = f; f_is = refl; plate = eqb-true _ _ one.0; from = leb-true _ _ days.0; to = leb-true _ _ days.1; inside = two.1 }

-- two pieces of a yard do not cover one cell on one day
alone_pieces : (yard : PlainYard) (k m pl d j i : ℕ) → IsYard yard → k < m → m < length yard.fixed
    → piece_covers yard k pl d j i ≡ true → piece_covers yard m pl d j i ≡ true → ⊥
alone_pieces yard k m pl d j i is less within x y =
    let one = stood (slice_get yard.fixed k) pl d j i x in
    let two = stood (slice_get yard.fixed m) pl d j i y in
    let apart : StandApart one.f two.f = all_pairs_get yard.fixed k m one.f two.f is.fixed_apart less one.f_is two.f_is in
    let meet = apart (one.plate ∙ sym two.plate) (let u = one.from in let v = two.to in omega arith) (let u = two.from in let v = one.to in omega arith) in
    meet (centre i j) (omega arith) one.inside two.inside

-- a block of a feasible plan and a piece do not cover one cell on one day
alone_piece : (yard : PlainYard) (q : List ℕ) (b k pl d j i : ℕ) → IsFeasible (choices yard) q → b < blocks (choices yard)
    → plan_covers yard q b pl d j i ≡ true → piece_covers yard k pl d j i ≡ true → ⊥
unfolding choices
alone_piece yard q b k pl d j i f l x y =
    let one = covered (slice_get yard.blocks b) (slice_get (placements yard b) (code_of q b)) pl d j i x in
    let two = stood (slice_get yard.fixed k) pl d j i y in
    f.unmet b l (
      k,
      record {
        block = one.block;
        p = one.p;
        piece = two.f;
        block_is = one.block_is;
        p_is = one.p_is;
        piece_is = two.f_is;
        meet = record {
          plate = one.plate ∙ sym two.plate;
          starts = (let u = one.from in let v = two.to in omega arith);
          ends = (let u = two.from in let v = one.to in omega arith);
          shapes = λ apart. apart (centre i j) (omega arith) one.inside two.inside;
        };
      },
    )

-- the pieces first, then the blocks of a plan
abbrev pub any_covers : PlainYard → List ℕ → ℕ → ℕ → ℕ → ℕ → ℕ → Bool
any_covers yard q n pl d j i =
    if nat_lt n (length yard.fixed) then piece_covers yard n pl d j i else plan_covers yard q (n - length yard.fixed) pl d j i

if_false : {A : Type 0} (t : Bool) (x y : A) → (t ≡ true → ⊥) → (if t then x else y) ≡ y
if_false true x y e = absurd (e refl)
if_false false x y e = refl

any-piece : (yard : PlainYard) (q : List ℕ) (k pl d j i : ℕ) → k < length yard.fixed → any_covers yard q k pl d j i ≡ piece_covers yard k pl d j i
any-piece yard q k pl d j i l = if_true (nat_lt k (length yard.fixed)) _ _ (lt-ltb k (length yard.fixed) l)

any-block : (yard : PlainYard) (q : List ℕ) (b pl d j i : ℕ) → any_covers yard q (length yard.fixed + b) pl d j i ≡ plan_covers yard q b pl d j i
any-block yard q b pl d j i =
    if_false (nat_lt (length yard.fixed + b) (length yard.fixed)) _ _ (λ t. let l = ltb-true _ _ t in absurd (omega arith))
    ∙ ap (λ b. plan_covers yard q b pl d j i) (let e : length yard.fixed + b - length yard.fixed ≡ b = omega arith in e)

any-past : (yard : PlainYard) (q : List ℕ) (n pl d j i : ℕ) → length yard.fixed ≤ n
    → any_covers yard q n pl d j i ≡ plan_covers yard q (n - length yard.fixed) pl d j i
any-past yard q n pl d j i l =
    if_false (nat_lt n (length yard.fixed)) _ _ (λ t. let m = ltb-true _ _ t in absurd (omega arith))

-- two of them do not cover one cell on one day
alone_any : (yard : PlainYard) (q : List ℕ) (a b pl d j i : ℕ) → IsYard yard → IsFeasible (choices yard) q
    → a < b → b < length yard.fixed + blocks (choices yard)
    → any_covers yard q a pl d j i ≡ true → any_covers yard q b pl d j i ≡ true → ⊥
alone_any yard q a b pl d j i is f less within x y = elim (cases_lt b (length yard.fixed)) [
  | inl l ↦ alone_pieces yard a b pl d j i is less l (sym (any-piece yard q a pl d j i (omega arith)) ∙ x) (sym (any-piece yard q b pl d j i l) ∙ y)
  | inr l ↦ elim (cases_lt a (length yard.fixed)) [
    | inl m ↦ alone_piece yard q (b - length yard.fixed) a pl d j i f (omega arith) (sym (any-past yard q b pl d j i l) ∙ y) (sym (any-piece yard q a pl d j i m) ∙ x)
    | inr m ↦ alone yard q (a - length yard.fixed) (b - length yard.fixed) pl d j i f (omega arith) (omega arith) (λ e. absurd (omega arith))
        (sym (any-past yard q a pl d j i m) ∙ x) (sym (any-past yard q b pl d j i l) ∙ y)
  ]
]

-- the pieces and the blocks cover no more than the cells of a plate
cover-le : (yard : PlainYard) (q : List ℕ) (pl d height width : ℕ) → IsYard yard → IsFeasible (choices yard) q
    → sum_below (length yard.fixed + blocks (choices yard)) (λ b. sum_below height (λ j. sum_below width (λ i. one_if (any_covers yard q b pl d j i)))) ≤ height * width
cover-le yard q pl d height width is f =
    let n : ℕ = length yard.fixed + blocks (choices yard) in
    let rows = sum-swap n height (λ b j. sum_below width (λ i. one_if (any_covers yard q b pl d j i))) in
    let row : (j : ℕ) → j < height → sum_below n (λ b. sum_below width (λ i. one_if (any_covers yard q b pl d j i))) ≤ width = λ j l.
    let cells' = sum-swap n width (λ b i. one_if (any_covers yard q b pl d j i)) in
    let most : sum_below width (λ i. sum_below n (λ b. one_if (any_covers yard q b pl d j i))) ≤ sum_below width (λ i. 1) =
    sum-le width _ _ (λ i m. sum-at_most_one n (λ b. one_if (any_covers yard q b pl d j i))
    (λ b k. one_if-le (any_covers yard q b pl d j i))
    (λ a b k m x y. alone_any yard q a b pl d j i is f k m (one_if-pos _ x) (one_if-pos _ y))) in
    let ones = sum_below-const width 1 (λ i. 1) (λ i l. refl) in
    omega (arith, cells', most, ones) in
    let all = sum-le height _ (λ j. width) row in
    let const = sum_below-const height width (λ j. width) (λ i l. refl) in
    omega (arith, rows, all, const)

times_le : (t : Bool) (n m : ℕ) (g : ℕ → ℕ) → sum_below n g ≤ m → sum_below n (λ b. one_if t * g b) ≤ one_if t * m
times_le true n m g h = let same = sum-agree n (λ b. 1 * g b) g (λ i l. omega arith) in omega arith
times_le false n m g h = let none = sum_below-const n 0 (λ b. 0 * g b) (λ i l. omega arith) in omega arith

-- what a piece covers of a plate in a window
abbrev pub stood_of : PlainYard → ℕ → ℕ → Fixed → ℕ → Plate → ℕ
stood_of yard first last f pl plate =
    sum_below yard.days (λ d. one_if (not (has_day d plate.closed) && (nat_le first d && nat_le d last))
    * sum_below plate.height (λ j. sum_below plate.width (λ i. one_if (stands_on f pl d j i))))

-- the cells that the n-th piece or block covers of a plate on a day
abbrev pub any_cells : PlainYard → List ℕ → ℕ → Plate → ℕ → ℕ → ℕ
any_cells yard q pl plate n d = sum_below plate.height (λ j. sum_below plate.width (λ i. one_if (any_covers yard q n pl d j i)))

abbrev pub any_of : PlainYard → List ℕ → ℕ → ℕ → ℕ → Plate → ℕ → ℕ
any_of yard q first last pl plate n =
    sum_below yard.days (λ d. one_if (not (has_day d plate.closed) && (nat_le first d && nat_le d last)) * any_cells yard q pl plate n d)

any-le : (yard : PlainYard) (q : List ℕ) (first last pl : ℕ) (plate : Plate) → IsYard yard → IsFeasible (choices yard) q
    → sum_below (length yard.fixed + blocks (choices yard)) (any_of yard q first last pl plate)
    ≤ plate_days yard first last plate * (plate.height * plate.width)
any-le yard q first last pl plate is f =
    let n : ℕ = length yard.fixed + blocks (choices yard) in
    let w : ℕ → Bool = λ d. not (has_day d plate.closed) && (nat_le first d && nat_le d last) in
    let g : ℕ → ℕ → ℕ = any_cells yard q pl plate in
    let swap = sum-swap n yard.days (λ b d. one_if (w d) * g b d) in
    let days : sum_below yard.days (λ d. sum_below n (λ b. one_if (w d) * g b d)) ≤ sum_below yard.days (λ d. one_if (w d) * (plate.height * plate.width)) =
    sum-le yard.days _ _ (λ d l. times_le (w d) n (plate.height * plate.width) (λ b. g b d) (cover-le yard q pl d plate.height plate.width is f)) in
    let times = sum-times yard.days (plate.height * plate.width) (λ d. one_if (w d)) in
    let count = ap (λ n. n * (plate.height * plate.width)) (count-sum (λ d. nat_le first d && nat_le d last) (λ d. not (has_day d plate.closed)) yard.days) in
    omega (arith, swap, days, times, count)

-- the figure of a piece, and of a block of the plan, at a plate
abbrev pub piece_at_plate : PlainYard → ℕ → ℕ → ℕ → Option Plate → ℕ → ℕ
piece_at_plate yard first last pl o k = option_map_or (λ plate. option_map_or (λ f. stood_of yard first last f pl plate) (slice_get yard.fixed k) 0) o 0

abbrev pub block_at_plate : PlainYard → List ℕ → ℕ → ℕ → ℕ → Option Plate → ℕ → ℕ
block_at_plate yard q first last pl o b =
    option_map_or (covered_of yard first last (slice_get yard.blocks b) (slice_get (placements yard b) (code_of q b)) pl) o 0

-- a sum of nothing is nothing
nothing : (n : ℕ) (f : ℕ → ℕ) → ((d : ℕ) → f d ≡ 0) → sum_below n f ≡ 0
nothing n f h = sum_below-const n 0 f (λ i l. h i) ∙ (let e : n * 0 ≡ 0 = omega arith in e)

piece_cells : (yard : PlainYard) (first last pl : ℕ) (plate : Plate) (o : Option Fixed)
    → option_map_or (λ f. stood_of yard first last f pl plate) o 0
    ≡ sum_below yard.days (λ d. one_if (not (has_day d plate.closed) && (nat_le first d && nat_le d last))
    * sum_below plate.height (λ j. sum_below plate.width (λ i. one_if (option_map_or (λ f. stands_on f pl d j i) o false))))
piece_cells yard first last pl plate (Some f) = refl
piece_cells yard first last pl plate None =
    sym (nothing yard.days _ (λ d.
    ap (λ n. one_if (not (has_day d plate.closed) && (nat_le first d && nat_le d last)) * n) (nothing plate.height _ (λ j. nothing plate.width _ (λ i. refl)))
    ∙ (let e : one_if (not (has_day d plate.closed) && (nat_le first d && nat_le d last)) * 0 ≡ 0 = omega arith in e)))

any_of-piece : (yard : PlainYard) (q : List ℕ) (first last pl : ℕ) (plate : Plate) (k : ℕ) → k < length yard.fixed
    → any_of yard q first last pl plate k ≡ option_map_or (λ f. stood_of yard first last f pl plate) (slice_get yard.fixed k) 0
any_of-piece yard q first last pl plate k l =
    sum-agree yard.days _ _ (λ d _. ap (λ n. one_if (not (has_day d plate.closed) && (nat_le first d && nat_le d last)) * n)
    (sum-agree plate.height _ _ (λ j _. sum-agree plate.width _ _ (λ i _. ap one_if (any-piece yard q k pl d j i l)))))
    ∙ sym (piece_cells yard first last pl plate (slice_get yard.fixed k))

any_of-block : (yard : PlainYard) (q : List ℕ) (first last pl : ℕ) (plate : Plate) (b : ℕ)
    → any_of yard q first last pl plate (length yard.fixed + b)
    ≡ covered_of yard first last (slice_get yard.blocks b) (slice_get (placements yard b) (code_of q b)) pl plate
any_of-block yard q first last pl plate b =
    sum-agree yard.days _ _ (λ d _. ap (λ n. one_if (not (has_day d plate.closed) && (nat_le first d && nat_le d last)) * n)
    (sum-agree plate.height _ _ (λ j _. sum-agree plate.width _ _ (λ i _. ap one_if (any-block yard q b pl d j i)))))

pub plate-le : (yard : PlainYard) (q : List ℕ) (first last pl : ℕ) (o : Option Plate) → IsYard yard → IsFeasible (choices yard) q
    → sum_below (length yard.fixed) (piece_at_plate yard first last pl o) + sum_below (blocks (choices yard)) (block_at_plate yard q first last pl o)
    ≤ option_map_or (λ plate. plate_days yard first last plate * (plate.height * plate.width)) o 0
plate-le yard q first last pl None is f =
    let one = sum_below-const (length yard.fixed) 0 (λ b. 0) (λ i l. refl) in
    let two = sum_below-const (blocks (choices yard)) 0 (λ b. 0) (λ i l. refl) in omega arith
plate-le yard q first last pl (Some plate) is f =
    let most = any-le yard q first last pl plate is f in
    let parts = sum-add_range (length yard.fixed) (blocks (choices yard)) (any_of yard q first last pl plate) in
    let one = sum-agree (length yard.fixed) (any_of yard q first last pl plate) (piece_at_plate yard first last pl (Some plate))
    (λ k l. any_of-piece yard q first last pl plate k l) in
    let two = sum-agree (blocks (choices yard)) (λ b. any_of yard q first last pl plate (length yard.fixed + b)) (block_at_plate yard q first last pl (Some plate))
    (λ b l. any_of-block yard q first last pl plate b) in
    omega (arith, most, parts, one, two)

-- on a day of its stay a piece covers at least its cells
stood_cells : (f : Fixed) (d width height : ℕ) → f.from ≤ d → d ≤ f.to → f.x + reach_x f.shape ≤ width → f.y + reach_y f.shape ≤ height
    → cells f.shape ≤ sum_below height (λ j. sum_below width (λ i. one_if (stands_on f f.plate d j i)))
stood_cells f d width height from to w h =
    let here : ((f.plate == f.plate) && (nat_le f.from d && nat_le d f.to)) ≡ true =
    and_from (f.plate == f.plate) (nat_le f.from d && nat_le d f.to) (eq-eqb f.plate f.plate refl)
    (and_from (nat_le f.from d) (nat_le d f.to) (le-leb _ _ from) (le-leb _ _ to)) in
    let shift = cells-shift f.shape f.x f.y width height w h in
    let same : sum_below height (λ j. sum_below width (λ i. one_if (is_inside f.shape (piece_at f) (centre i j))))
    ≡ sum_below height (λ j. sum_below width (λ i. one_if (stands_on f f.plate d j i))) =
    sum-agree height _ _ (λ j l. sum-agree width _ _ (λ i m.
    ap (λ b. one_if (b && is_inside f.shape (piece_at f) (centre i j))) (sym here))) in
    omega (arith, shift, same)

-- what a piece takes in a window is covered
pub stood-le : (yard : PlainYard) (k : ℕ) (f : Fixed) (first last : ℕ) → IsPiece yard.days yard.plates f
    → stood_by yard first last f
    ≤ sum_below (length yard.plates) (λ pl. option_map_or (stood_of yard first last f pl) (slice_get yard.plates pl) 0)
stood-le yard k f first last is =
    let open' : ℕ → Bool = λ d. not (has_day d is.plate.closed) in
    let span : ℕ → Bool = λ d. nat_le (max first f.from) d && nat_le d (min last f.to) in
    let window : ℕ → Bool = λ d. nat_le first d && nat_le d last in
    let whole : ℕ → ℕ = λ d. sum_below is.plate.height (λ j. sum_below is.plate.width (λ i. one_if (stands_on f f.plate d j i))) in
    let left : stood_by yard first last f ≡ sum_below yard.days (λ d. one_if (open' d && span d) * cells f.shape) =
    ap (λ o. option_map_or (plate_days yard (max first f.from) (min last f.to)) o 0 * cells f.shape) is.plate_is
    ∙ ap (λ n. n * cells f.shape) (count-sum span open' yard.days)
    ∙ sum-times yard.days (cells f.shape) (λ d. one_if (open' d && span d)) in
    let middle : sum_below yard.days (λ d. one_if (open' d && span d) * cells f.shape) ≤ sum_below yard.days (λ d. one_if (open' d && window d) * whole d) =
    sum-le yard.days _ _ (λ d l. day_le (open' d) (span d) (window d) (cells f.shape) (whole d)
    (λ e.
    let two = and_parts (nat_le (max first f.from) d) (nat_le d (min last f.to)) e in
    let a = leb-true _ _ two.0 in let b = leb-true _ _ two.1 in (
      and_from (nat_le first d) (nat_le d last) (le-leb _ _ (omega arith)) (le-leb _ _ (omega arith)),
      stood_cells f d is.plate.width is.plate.height (omega arith) (omega arith) is.within.wide is.within.high,
    ))) in
    let at : ℕ → ℕ = λ pl. option_map_or (stood_of yard first last f pl) (slice_get yard.plates pl) 0 in
    let here : at f.plate ≡ sum_below yard.days (λ d. one_if (open' d && window d) * whole d) =
    ap (λ o. option_map_or (stood_of yard first last f f.plate) o 0) is.plate_is in
    let one = sum_below-le (length yard.plates) f.plate at (slice_get_within yard.plates f.plate is.plate is.plate_is) in
    omega (arith, left, middle, here, one)
