-- A shape at a place within a rectangle has there the cells that it has where it lies.
use Rattle.std.proofs.Common.{◌≡◌, refl, ap, ◌∙◌, subst, arith, ℕ, ◌+◌, ◌-◌, ◌*◌, ◌<◌, ◌≤◌, true, List, [], ◌∷◌, map}
use Rattle.std.proofs.lemmas.Int.{ints}
use Rattle.shape_exact.specs.declared.point.Point.{Point}
use Rattle.common_lists.specs.Each.{sum_below}
use Rattle.shape_exact.specs.Shapes.{IsShape, is_inside, origin, centre, cells, greatest, reach_x, reach_y}
use Rattle.shape_exact.specs.Cells.{cells_on}
use Rattle.common_lists.proofs.EachLaws.{sum-add_range, sum_below-const, sum-agree}
use Rattle.shape_exact.proofs.CellLaws.{inside-shift}
use Rattle.shape_exact.proofs.TurnLaws.{high_x, high_y}
use Rattle.shape_exact.proofs.FormLaws.{not_left, not_under, normal}
use Rattle.shape_exact.specs.Plane.{Mark, Every, Inside}
use Rattle.shape_exact.proofs.LineLaws.{every_then}
use Rattle.shape_exact.specs.Sums.{shift}
use Rattle.shape_exact.proofs.SumLaws.{every_map}
use Rattle.shape_exact.proofs.MoveLaws.{quarter, quarter_mark, inside_quarter}
use Rattle.shape_exact.proofs.WallLaws.{not_right}
use Rattle.shape_exact.proofs.BridgeLaws.{every_from_All}
use Rattle.shape_exact.proofs.ApartLaws.{mark, inside_from}
use Rattle.shape_exact.proofs.ColumnLaws.{one_if, none_when}
use Rattle.shape_exact.proofs.CornerLaws.{below_greatest}
use lib.IntN.{ℤ, pos, ◌+ℤ◌, ◌*ℤ◌, neg_ℤ}
use lib.Signed.{◌≤ℤ◌}

-- ---- a spot inside lies between the sides of the box, seen from each of four directions
wall_right : (g : Point → Point) (k : ℤ) (z : Mark) (v : Point) (vs : List Point) → Inside z (map g (v ∷ vs)) → Every (λ u. (g u).x ≤ℤ k) (v ∷ vs) → z.x ≤ℤ (z.n *ℤ k)
wall_right g k z v vs i h = not_right k z (g v) (map g vs) i (every_map g (λ u. u.x ≤ℤ k) (v ∷ vs) h)

-- the quarter turns of the shape at its place
abbrev once : Point → Point → Point
once at v = quarter (shift at v)

abbrev twice : Point → Point → Point
twice at v = quarter (once at v)

abbrev thrice : Point → Point → Point
thrice at v = quarter (twice at v)

maps : {A B C : Type 0} (f : B → C) (g : A → B) (xs : List A) → map f (map g xs) ≡ map (λ x. f (g x)) xs
maps f g [] = refl
maps f g (x ∷ xs) = ap (λ ys. f (g x) ∷ ys) (maps f g xs)

turned_inside : (g : Point → Point) (z : Mark) (vs : List Point) → Inside z (map g vs) → Inside (quarter_mark z) (map (λ v. quarter (g v)) vs)
turned_inside g z vs i = subst (Inside (quarter_mark z)) (maps quarter g vs) (inside_quarter z (map g vs) i)

-- the cell lies within the box of the shape at its place
pub record InBox (vs : List Point) (x y i j : ℕ) : Type 0 where
  pub left : x ≤ i
  pub right : i < x + reach_x vs
  pub low : y ≤ j
  pub high : j < y + reach_y vs

pub in_box : (vs : List Point) (x y i j : ℕ) → IsShape vs → is_inside vs (record { x = pos x; y = pos y }) (centre i j) ≡ true → InBox vs x y i j
in_box [] x y i j s h = absurd (let n = s.some in omega arith)
in_box (v ∷ vs) x y i j s h =
    let at : Point = record { x = pos x; y = pos y } in
    let us = v ∷ vs in
    let z = mark (centre i j) in
    let i0 = inside_from us at (centre i j) (omega arith) h in
    let i1 = turned_inside (shift at) z us i0 in
    let i2 = turned_inside (once at) (quarter_mark z) us i1 in
    let i3 = turned_inside (twice at) (quarter_mark (quarter_mark z)) us i2 in
    let right = wall_right (shift at) (pos (x + reach_x us)) z v vs i0
    (every_then (λ u. u.x ≤ℤ greatest (λ p. p.x) us) (λ u. (shift at u).x ≤ℤ pos (x + reach_x us)) (λ u l. far u.x x (reach_x us) (subst (λ (k : ℤ). u.x ≤ℤ k) (high_x us (normal us s)) l)) us
    (every_from_All (λ u. u.x ≤ℤ greatest (λ p. p.x) us) us (below_greatest (λ p. p.x) us))) in
    let low = wall_right (once at) (neg_ℤ (pos y)) (quarter_mark z) v vs i1
    (every_then (λ u. pos 0 ≤ℤ u.y) (λ u. (once at u).x ≤ℤ neg_ℤ (pos y)) (λ u l. near u.y y l) us (every_from_All (λ u. pos 0 ≤ℤ u.y) us (not_under us s))) in
    let left = wall_right (twice at) (neg_ℤ (pos x)) (quarter_mark (quarter_mark z)) v vs i2
    (every_then (λ u. pos 0 ≤ℤ u.x) (λ u. (twice at u).x ≤ℤ neg_ℤ (pos x)) (λ u l. near u.x x l) us (every_from_All (λ u. pos 0 ≤ℤ u.x) us (not_left us s))) in
    let high = wall_right (thrice at) (pos (y + reach_y us)) (quarter_mark (quarter_mark (quarter_mark z))) v vs i3
    (every_then (λ u. u.y ≤ℤ greatest (λ p. p.y) us) (λ u. (thrice at u).x ≤ℤ pos (y + reach_y us)) (λ u l. far_back u.y y (reach_y us) (subst (λ (k : ℤ). u.y ≤ℤ k) (high_y us (normal us s)) l)) us
    (every_from_All (λ u. u.y ≤ℤ greatest (λ p. p.y) us) us (below_greatest (λ p. p.y) us))) in
    record { left = from_left i x left; right = from_right i (x + reach_x us) right; low = from_left j y low; high = from_high j (y + reach_y us) high }
  where
    far : (a : ℤ) (x r : ℕ) → a ≤ℤ pos r → (a +ℤ pos x) ≤ℤ pos (x + r)
    far a x r l = omega (arith, ints)

    far_back : (a : ℤ) (x r : ℕ) → a ≤ℤ pos r → neg_ℤ (neg_ℤ (a +ℤ pos x)) ≤ℤ pos (x + r)
    far_back a x r l = omega (arith, ints)

    near : (a : ℤ) (x : ℕ) → pos 0 ≤ℤ a → neg_ℤ (a +ℤ pos x) ≤ℤ neg_ℤ (pos x)
    near a x l = omega (arith, ints)

    from_right : (i k : ℕ) → pos (2 * i + 1) ≤ℤ (pos 2 *ℤ pos k) → i < k
    from_right i k l = omega (arith, ints)

    from_high : (i k : ℕ) → neg_ℤ (neg_ℤ (pos (2 * i + 1))) ≤ℤ (pos 2 *ℤ pos k) → i < k
    from_high i k l = omega (arith, ints)

    from_left : (i x : ℕ) → neg_ℤ (pos (2 * i + 1)) ≤ℤ (pos 2 *ℤ neg_ℤ (pos x)) → x ≤ i
    from_left i x l = omega (arith, ints)

-- ---- sums with nothing before and after
sum_part : (m w n : ℕ) (f : ℕ → ℕ) → w + n ≤ m → ((k : ℕ) → k < w → f k ≡ 0) → ((k : ℕ) → w + n ≤ k → f k ≡ 0) → sum_below m f ≡ sum_below n (λ k. f (w + k))
sum_part m w n f l before after =
    let r = m - (w + n) in
    let whole : m ≡ w + (n + r) = omega arith in
    let a = ap (λ (k : ℕ). sum_below k f) whole in
    let b = sum-add_range w (n + r) f in
    let c = sum-add_range n r (λ k. f (w + k)) in
    let d = sum_below-const w 0 f before in
    let e = sum_below-const r 0 (λ k. f (w + (n + k))) (λ k h. after (w + (n + k)) (omega arith)) in
    omega arith

-- the cells of a rectangle in which the shape stands
pub cells_anywhere : (vs : List Point) (x y width height : ℕ) → IsShape vs → x + reach_x vs ≤ width → y + reach_y vs ≤ height
    → cells_on width height vs (record { x = pos x; y = pos y }) ≡ cells vs
cells_anywhere vs x y width height s w h =
    let at : Point = record { x = pos x; y = pos y } in
    let cell : ℕ → ℕ → ℕ = λ j i. one_if (is_inside vs at (centre i j)) in
    let out : (i j : ℕ) → (InBox vs x y i j → ⊥) → cell j i ≡ 0 = λ i j n. none_when (is_inside vs at (centre i j)) (λ t. n (in_box vs x y i j s t)) in
    let none : (j : ℕ) → ((i : ℕ) → InBox vs x y i j → ⊥) → sum_below width (cell j) ≡ 0 = λ j n. sum_below-const width 0 (cell j) (λ i l. out i j (n i)) ∙ times_none width in
    let row : (j : ℕ) → sum_below width (cell j) ≡ sum_below (reach_x vs) (λ i. cell j (x + i)) = λ j.
    sum_part width x (reach_x vs) (cell j) w (λ i l. out i j (λ b. let k = b.left in omega arith)) (λ i l. out i j (λ b. let k = b.right in omega arith)) in
    sum_part height y (reach_y vs) (λ j. sum_below width (cell j)) h (λ j l. none j (λ i b. let k = b.low in omega arith)) (λ j l. none j (λ i b. let k = b.high in omega arith))
    ∙ sum-agree (reach_y vs) (λ j. sum_below width (cell (y + j))) (λ j. sum_below (reach_x vs) (λ i. one_if (is_inside vs origin (centre i j))))
    (λ j l. row (y + j) ∙ sum-agree (reach_x vs) (λ i. cell (y + j) (x + i)) (λ i. one_if (is_inside vs origin (centre i j))) (λ i m. ap one_if (inside-shift vs x y i j)))
  where
    times_none : (n : ℕ) → n * 0 ≡ 0
    times_none n = omega arith
