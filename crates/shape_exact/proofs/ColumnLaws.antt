-- The columns of a row of cells, as each edge cuts them.
use Rattle.std.proofs.Common.{◌≡◌, refl, sym, ap, ◌∙◌, subst, arith, ℕ, zero, suc, ◌+◌, ◌-◌, ◌*◌, ◌<◌, ◌≤◌, ◌↔◌, Bool, true, false}
use Rattle.std.specs.Prelude.{◌&&◌, int_lt, if◌then◌else◌, List}
use Rattle.std.specs.Int.RustNames.{unsigned_abs}
use Rattle.std.proofs.lemmas.Int.{ints, unsigned_abs-mul}
use Rattle.std.proofs.Math.Nat.{mul-le-mul}
use Rattle.common_lists.proofs.ListLaws.{both_true}
use Rattle.shape_exact.specs.declared.point.Point.{Point}
use Rattle.shape_exact.specs.declared.cells.Interval.{Interval}
use Rattle.common_lists.specs.Each.{sum_below}
use Rattle.shape_exact.specs.Shapes.{side_of, is_inside, origin, centre, cells, reach_x, reach_y}
use Rattle.shape_exact.specs.Cells.{Holds, centre_of}
use Rattle.shape_exact.proofs.RingLaws.{ring, linear}
use Rattle.common_lists.proofs.EachLaws.{sum-add_range, sum_below-const}
use Rattle.shape_exact.proofs.ApartLaws.{above_from, above_to}
use lib.IntN.{ℤ, pos, negsuc, ◌+ℤ◌, ◌-ℤ◌, ◌*ℤ◌}
use lib.Signed.{◌<ℤ◌, ◌≤ℤ◌}

-- what the edge asks of the columns in row j
abbrev pub bound_of : Point → Point → ℤ → ℤ
bound_of a b j = (b.x -ℤ a.x) *ℤ (((pos 2 *ℤ j) +ℤ pos 1) -ℤ (pos 2 *ℤ a.y)) -ℤ (b.y -ℤ a.y) *ℤ (pos 1 -ℤ (pos 2 *ℤ a.x))

side_at : (ax ay bx by i j : ℤ) → (bx -ℤ ax) *ℤ (((pos 2 *ℤ j) +ℤ pos 1) -ℤ pos 2 *ℤ (ay +ℤ pos 0)) -ℤ (by -ℤ ay) *ℤ (((pos 2 *ℤ i) +ℤ pos 1) -ℤ pos 2 *ℤ (ax +ℤ pos 0)) ≡ ((bx -ℤ ax) *ℤ (((pos 2 *ℤ j) +ℤ pos 1) -ℤ (pos 2 *ℤ ay)) -ℤ (by -ℤ ay) *ℤ (pos 1 -ℤ (pos 2 *ℤ ax))) -ℤ ((pos 2 *ℤ (by -ℤ ay)) *ℤ i)
side_at ax ay bx by i j = simp ring (omega (arith, linear))

pub side-centre : (a b : Point) (i j : ℤ) → side_of a b origin (centre_of i j) ≡ bound_of a b j -ℤ ((pos 2 *ℤ (b.y -ℤ a.y)) *ℤ i)
side-centre a b i j = side_at a.x a.y b.x b.y i j

-- a column is on the inner side where its slope-fold is below the bound
pub column_is : (a b : Point) (i j : ℤ) → (((pos 2 *ℤ (b.y -ℤ a.y)) *ℤ i) <ℤ bound_of a b j) ↔ (pos 0 <ℤ side_of a b origin (centre_of i j))
column_is a b i j = plain (bound_of a b j) ((pos 2 *ℤ (b.y -ℤ a.y)) *ℤ i) (side_of a b origin (centre_of i j)) (side-centre a b i j)
  where
    plain : (b m s : ℤ) → s ≡ b -ℤ m → (m <ℤ b) ↔ (pos 0 <ℤ s)
    plain b m s e = (λ h. omega (arith, linear), λ h. omega (arith, linear))

-- one edge more
pub one_more : (S A B : Type 0) (x : Bool) (side : ℤ) → A ↔ (S × (x ≡ true)) → B ↔ (A × (pos 0 <ℤ side)) → B ↔ (S × ((x && int_lt (pos 0) side) ≡ true))
one_more S A B x side e f = (
  λ b. let g = f.0 b in let h = e.0 g.0 in (h.0, ap (λ y. y && int_lt (pos 0) side) h.1 ∙ above_to side g.1),
  λ h. let t = both_true x (int_lt (pos 0) side) h.1 in f.1 (e.1 (h.0, t.0), above_from side t.1),
)

-- ---- sizes
pub bound_small : (a b c d : ℤ) → unsigned_abs a ≤ 4000 → unsigned_abs b ≤ 4000 → unsigned_abs c ≤ 10000 → unsigned_abs d ≤ 10000 → unsigned_abs (a *ℤ d -ℤ b *ℤ c) ≤ 1500000000
bound_small a b c d ha hb hc hd = add (a *ℤ d) (b *ℤ c) (times a d ha hd) (times b c hb hc)
  where
    times : (a b : ℤ) → unsigned_abs a ≤ 4000 → unsigned_abs b ≤ 10000 → unsigned_abs (a *ℤ b) ≤ 40000000
    times a b h k = omega (arith, unsigned_abs-mul a b, mul-le-mul h k)

    add : (a b : ℤ) → unsigned_abs a ≤ 40000000 → unsigned_abs b ≤ 40000000 → unsigned_abs (a -ℤ b) ≤ 1500000000
    add a b h k = omega (arith, ints)

-- ---- how many numbers an interval has
-- 1 for true
abbrev pub one_if : Bool → ℕ
one_if b = if b then 1 else 0

one_when : (b : Bool) → b ≡ true → one_if b ≡ 1
one_when b e = ap one_if e

pub none_when : (b : Bool) → (b ≡ true → ⊥) → one_if b ≡ 0
none_when true h = absurd (h refl)
none_when false h = refl

-- the numbers from a on that are below b
pub range_sum : (n a b : ℕ) (t : ℕ → Bool) → a ≤ b → b ≤ n → ((i : ℕ) → i < n → (t i ≡ true) ↔ ((a ≤ i) × (i < b))) → sum_below n (λ i. if t i then 1 else 0) ≡ b - a
range_sum n a b t l m h =
    let f : ℕ → ℕ = λ i. if t i then 1 else 0 in
    let whole : n ≡ a + ((b - a) + (n - b)) = omega arith in
    let front = sum_below-const a 0 f (λ i k. none_when (t i) (λ e. let r = (h i (omega arith)).0 e in omega arith)) in
    let middle = sum_below-const (b - a) 1 (λ i. f (a + i)) (λ i k. one_when (t (a + i)) ((h (a + i) (omega arith)).1 (omega arith, omega arith))) in
    let back = sum_below-const (n - b) 0 (λ i. f (a + ((b - a) + i))) (λ i k. none_when (t (a + ((b - a) + i))) (λ e. let r = (h (a + ((b - a) + i)) (omega arith)).0 e in omega arith)) in
    let s = ap (λ k. sum_below k f) whole in
    let first = sum-add_range a ((b - a) + (n - b)) f in
    let second = sum-add_range (b - a) (n - b) (λ i. f (a + i)) in
    omega arith

-- the centre of a cell, either way
pub centre-same : (i j : ℕ) → centre_of (pos i) (pos j) ≡ centre i j
centre-same i j =
    let e : (k : ℕ) → (pos 2 *ℤ pos k) +ℤ pos 1 ≡ pos (2 * k + 1) = λ k. omega (arith, ints) in
    ap (λ x. record { x = x; y = (pos 2 *ℤ pos j) +ℤ pos 1; n = 2 }) (e i) ∙ ap (λ y. record { x = pos (2 * i + 1); y = y; n = 2 }) (e j)

-- an interval that holds exactly the columns that pass has as many numbers as columns pass
abbrev pub Passing : ℤ → (ℕ → Bool) → Interval → Type 0
Passing width t s = (i : ℕ) → Holds s (pos i) ↔ ((pos i <ℤ width) × (t i ≡ true))

pub interval_sum : (n : ℕ) (t : ℕ → Bool) (low high : ℤ) → low ≤ℤ high → pos 0 ≤ℤ low → high <ℤ pos n → Passing (pos n) t (record { low = low; high = high })
    → unsigned_abs (high -ℤ low) + 1 ≡ sum_below n (λ i. if t i then 1 else 0)
interval_sum n t (negsuc a) high l z m h = absurd (omega (arith, ints))
interval_sum n t (pos a) (negsuc b) l z m h = absurd (omega (arith, ints))
interval_sum n t (pos a) (pos b) l z m h =
    let c = range_sum n a (b + 1) t (omega (arith, ints)) (omega (arith, ints))
    (λ i k. (λ e. let r = (h i).1 (omega (arith, ints), e) in (let x = r.0 in omega (arith, ints), let x = r.1 in omega (arith, ints)), λ r. ((h i).0 (omega (arith, ints), omega (arith, ints))).1)) in
    let d : unsigned_abs (pos b -ℤ pos a) + 1 ≡ (b + 1) - a = omega (arith, ints) in
    d ∙ sym c

pub interval_none : (n : ℕ) (t : ℕ → Bool) (low high : ℤ) → high <ℤ low → Passing (pos n) t (record { low = low; high = high })
    → 0 ≡ sum_below n (λ i. if t i then 1 else 0)
interval_none n t low high l h =
    let c = sum_below-const n 0 (λ i. if t i then 1 else 0) (λ i k. none_when (t i) (λ e. let r = (h i).1 (omega (arith, ints), e) in none low high (pos i) l r.0 r.1)) in
    omega arith
  where
    none : (a b i : ℤ) → b <ℤ a → a ≤ℤ i → i ≤ℤ b → ⊥
    none a b i h k m = omega (arith, linear)

-- ---- a row
abbrev pub InRow : List Point → ℤ → ℤ → Interval → Type 0
InRow vs width j s = (i : ℤ) → Holds s i ↔ (((pos 0 ≤ℤ i) × (i <ℤ width)) × (is_inside vs origin (centre_of i j) ≡ true))

passing_from : (vs : List Point) (n j : ℕ) (s : Interval) → InRow vs (pos n) (pos j) s → Passing (pos n) (λ i. is_inside vs origin (centre i j)) s
passing_from vs n j s h = λ i.
    subst (λ c. Holds s (pos i) ↔ ((pos i <ℤ pos n) × (is_inside vs origin c ≡ true))) (centre-same i j)
    (λ k. let r = (h (pos i)).0 k in (r.0.1, r.1), λ r. (h (pos i)).1 ((omega (arith, ints), r.0), r.1))

pub row_sum : (vs : List Point) (n j : ℕ) (w r : ℤ) (s : Interval) → w ≡ pos n → r ≡ pos j → InRow vs w r s → s.low ≤ℤ s.high
    → unsigned_abs (s.high -ℤ s.low) + 1 ≡ sum_below n (λ i. one_if (is_inside vs origin (centre i j)))
row_sum vs n j w r s d e h l =
    let g = subst (λ (r : ℤ). InRow vs (pos n) r s) e (subst (λ (w : ℤ). InRow vs w r s) d h) in
    let low = (g s.low).0 (at_most s.low, l) in
    let high = (g s.high).0 (l, at_most s.high) in
    interval_sum n (λ i. is_inside vs origin (centre i j)) s.low s.high l low.0.0 high.0.1 (passing_from vs n j s g)
  where
    at_most : (a : ℤ) → a ≤ℤ a
    at_most a = omega (arith, linear)

-- an interval that is not empty lies within the row
pub row_within : (vs : List Point) (n : ℕ) (w r : ℤ) (s : Interval) → w ≡ pos n → InRow vs w r s → s.low ≤ℤ s.high → (pos 0 ≤ℤ s.low) × (s.high <ℤ pos n)
row_within vs n w r s d h l =
    let g = subst (λ (w : ℤ). InRow vs w r s) d h in
    (((g s.low).0 (at_most s.low, l)).0.0, ((g s.high).0 (l, at_most s.high)).0.1)
  where
    at_most : (a : ℤ) → a ≤ℤ a
    at_most a = omega (arith, linear)

pub row_none : (vs : List Point) (n j : ℕ) (w r : ℤ) (s : Interval) → w ≡ pos n → r ≡ pos j → InRow vs w r s → s.high <ℤ s.low
    → 0 ≡ sum_below n (λ i. one_if (is_inside vs origin (centre i j)))
row_none vs n j w r s d e h l =
    let g = subst (λ (r : ℤ). InRow vs (pos n) r s) e (subst (λ (w : ℤ). InRow vs w r s) d h) in
    interval_none n (λ i. is_inside vs origin (centre i j)) s.low s.high l (passing_from vs n j s g)

-- a row has at most as many as there are columns
pub row_limit : (n : ℕ) (t : ℕ → Bool) → sum_below n (λ i. one_if (t i)) ≤ n
row_limit zero t = omega arith
row_limit (suc n) t = let h = row_limit n t in let k = small (t n) in omega arith
  where
    small : (b : Bool) → one_if b ≤ 1
    small true = omega arith
    small false = omega arith

-- one row more
pub sum_next : (j : ℕ) (f : ℕ → ℕ) (a r : ℕ) → a ≡ sum_below j f → r ≡ f j → a + r ≡ sum_below (j + 1) f
sum_next j f a r e h = subst (λ k. a + r ≡ sum_below k f) (let s : suc j ≡ j + 1 = omega arith in s) (let s : a + r ≡ sum_below j f + f j = omega arith in s)

pub row_small : (n : ℕ) (t : ℕ → Bool) (r : ℕ) → n ≤ 2000 → r ≡ sum_below n (λ i. one_if (t i)) → r ≤ 2000
row_small n t r l e = let h = row_limit n t in omega arith

-- the rows of a shape, added up
pub cells_from : (ps vs : List Point) (total n j : ℕ) → total ≡ sum_below j (λ j. sum_below n (λ i. one_if (is_inside ps origin (centre i j)))) → ps ≡ vs → n ≡ reach_x vs → j ≡ reach_y vs → total ≡ cells vs
cells_from ps vs total n j e f g h =
    subst (λ j. total ≡ sum_below j (λ j. sum_below (reach_x vs) (λ i. one_if (is_inside vs origin (centre i j))))) h
    (subst (λ n. total ≡ sum_below j (λ j. sum_below n (λ i. one_if (is_inside vs origin (centre i j))))) g
    (subst (λ ps. total ≡ sum_below j (λ j. sum_below n (λ i. one_if (is_inside ps origin (centre i j))))) f e))
