-- A quarter turn keeps the cells of a shape.
use Rattle.std.proofs.Common.{◌≡◌, ℕ, zero, suc, ◌+◌, ◌-◌, ◌*◌, ◌<◌, List, [], ◌∷◌, ◌++◌, map, refl, sym, ap, ◌∙◌, subst, arith, Bool}
use Rattle.std.specs.Prelude.{ℤ, pos, negsuc, neg_ℤ, ◌+ℤ◌, ◌-ℤ◌, ◌*ℤ◌, ◌≤ℤ◌, int_lt, unsigned_abs, fold, if◌then◌else◌, ◌&&◌}
use Rattle.std.specs.Int.{int_min, int_max}
use Rattle.std.specs.List.{list_all, zip}
use Rattle.std.proofs.lemmas.Int.{ints, clamps, fold-int_min_bounds, fold-int_max_bounds}
use Rattle.std.proofs.Math.IntN.{zero-*ℤ, negsuc-*ℤ-pos, pos-*ℤ-pos, negsuc-*ℤ-negsuc, pos-*ℤ-negsuc, neg_ℤ-neg_ℤ, *ℤ_comm}
use Rattle.std.proofs.lemmas.List.{map-append}
use Rattle.shape_exact.specs.declared.point.Point.{Point}
use Rattle.common_lists.specs.Each.{sum_below}
use Rattle.shape_exact.specs.Shapes.{edges, side_of, is_inside, least, greatest, shifted, turned, reach_x, reach_y, centre, origin, cells}
use Rattle.common_lists.proofs.EachLaws.{sum-swap, sum-agree}
use Rattle.shape_exact.proofs.CellLaws.{list_all-agree}

-- a shape whose least x and least y are 0
pub record IsNormal (vs : List Point) : Type 0 where
  pub first : Point
  pub others : List Point
  pub is : vs ≡ first ∷ others
  pub low_x : least (λ p. p.x) vs ≡ pos 0
  pub low_y : least (λ p. p.y) vs ≡ pos 0

-- a quarter turn within a height
abbrev pub rot : ℕ → Point → Point
rot h v = record { x = pos h -ℤ v.y; y = v.x }

min_flip : (c a b : ℤ) → int_min (c -ℤ a) (c -ℤ b) ≡ (c -ℤ int_max a b)
min_flip c a b = omega (arith, ints, clamps)

max_flip : (c a b : ℤ) → int_max (c -ℤ a) (c -ℤ b) ≡ (c -ℤ int_min a b)
max_flip c a b = omega (arith, ints, clamps)

-- parts of a side
part_h : (h j : ℕ) (y : ℤ) → j < h → (pos (2 * (h - 1 - j) + 1) -ℤ pos 2 *ℤ ((pos h -ℤ y) +ℤ pos 0)) ≡ neg_ℤ (pos (2 * j + 1) -ℤ pos 2 *ℤ (y +ℤ pos 0))
part_h h j y l = omega (arith, ints)

part_y : (c a b : ℤ) → ((c -ℤ b) -ℤ (c -ℤ a)) ≡ neg_ℤ (b -ℤ a)
part_y c a b = omega (arith, ints)

neg-times : (p q : ℤ) → (neg_ℤ p *ℤ q) ≡ neg_ℤ (p *ℤ q)
neg-times (pos zero) q = zero-*ℤ q ∙ ap neg_ℤ (sym (zero-*ℤ q))
neg-times (pos (suc m)) (pos n) = negsuc-*ℤ-pos m n ∙ ap neg_ℤ (sym (pos-*ℤ-pos (suc m) n))
neg-times (pos (suc m)) (negsuc n) = negsuc-*ℤ-negsuc m n ∙ sym (neg_ℤ-neg_ℤ (pos (suc m * suc n))) ∙ ap neg_ℤ (sym (pos-*ℤ-negsuc (suc m) n))
neg-times (negsuc m) (pos n) = pos-*ℤ-pos (suc m) n ∙ sym (neg_ℤ-neg_ℤ (pos (suc m * n))) ∙ ap neg_ℤ (sym (negsuc-*ℤ-pos m n))
neg-times (negsuc m) (negsuc n) = pos-*ℤ-negsuc (suc m) n ∙ ap neg_ℤ (sym (negsuc-*ℤ-negsuc m n))

times-neg : (p q : ℤ) → (p *ℤ neg_ℤ q) ≡ neg_ℤ (p *ℤ q)
times-neg p q = *ℤ_comm p (neg_ℤ q) ∙ neg-times q p ∙ ap neg_ℤ (*ℤ_comm q p)

neg_swap : (a b : ℤ) → (neg_ℤ a -ℤ neg_ℤ b) ≡ (b -ℤ a)
neg_swap a b = omega (arith, ints)

turn_ring : (p q r s : ℤ) → ((neg_ℤ p *ℤ q) -ℤ (r *ℤ neg_ℤ s)) ≡ ((r *ℤ s) -ℤ (p *ℤ q))
turn_ring p q r s = ap (λ x. x -ℤ (r *ℤ neg_ℤ s)) (neg-times p q) ∙ ap (λ x. neg_ℤ (p *ℤ q) -ℤ x) (times-neg r s) ∙ neg_swap (p *ℤ q) (r *ℤ s)

-- a side of the turned shape is that of the shape
side-turn : (a b : Point) (h i j : ℕ) → j < h → side_of (rot h a) (rot h b) origin (centre (h - 1 - j) i) ≡ side_of a b origin (centre i j)
side-turn a b h i j l =
    ap (λ p. (p *ℤ (pos (2 * i + 1) -ℤ pos 2 *ℤ (a.x +ℤ pos 0))) -ℤ ((b.x -ℤ a.x) *ℤ (pos (2 * (h - 1 - j) + 1) -ℤ pos 2 *ℤ ((pos h -ℤ a.y) +ℤ pos 0)))) (part_y (pos h) a.y b.y)
    ∙ ap (λ s. (neg_ℤ (b.y -ℤ a.y) *ℤ (pos (2 * i + 1) -ℤ pos 2 *ℤ (a.x +ℤ pos 0))) -ℤ ((b.x -ℤ a.x) *ℤ s)) (part_h h j a.y l)
    ∙ turn_ring (b.y -ℤ a.y) (pos (2 * i + 1) -ℤ pos 2 *ℤ (a.x +ℤ pos 0)) (b.x -ℤ a.x) (pos (2 * j + 1) -ℤ pos 2 *ℤ (a.y +ℤ pos 0))

abbrev pub rot_both : ℕ → Point × Point → Point × Point
rot_both h e = (rot h e.0, rot h e.1)

zip-rot : (h : ℕ) (us vs : List Point) → zip (map (rot h) us) (map (rot h) vs) ≡ map (rot_both h) (zip us vs)
zip-rot h [] vs = refl
zip-rot h (u ∷ us) [] = refl
zip-rot h (u ∷ us) (v ∷ vs) = ap (λ es. (rot h u, rot h v) ∷ es) (zip-rot h us vs)

pub edges-rot : (h : ℕ) (vs : List Point) → edges (map (rot h) vs) ≡ map (rot_both h) (edges vs)
edges-rot h [] = refl
edges-rot h (v ∷ vs) =
    ap (λ ws. zip (rot h v ∷ map (rot h) vs) ws) (sym (map-append (rot h) vs (v ∷ []))) ∙ zip-rot h (v ∷ vs) (vs ++ v ∷ [])

list_all-map : {A B : Type 0} (p : B → Bool) (f : A → B) (xs : List A) → list_all p (map f xs) ≡ list_all (λ x. p (f x)) xs
list_all-map p f [] = refl
list_all-map p f (x ∷ xs) = ap (λ b. p (f x) && b) (list_all-map p f xs)

-- a cell is inside the shape where the turned cell is inside the turned shape
inside-turn : (vs : List Point) (h i j : ℕ) → j < h → is_inside (map (rot h) vs) origin (centre (h - 1 - j) i) ≡ is_inside vs origin (centre i j)
inside-turn vs h i j l =
    ap (list_all (λ e. int_lt (pos 0) (side_of e.0 e.1 origin (centre (h - 1 - j) i)))) (edges-rot h vs)
    ∙ list_all-map (λ e. int_lt (pos 0) (side_of e.0 e.1 origin (centre (h - 1 - j) i))) (rot_both h) (edges vs)
    ∙ list_all-agree (λ e. int_lt (pos 0) (side_of (rot h e.0) (rot h e.1) origin (centre (h - 1 - j) i)))
    (λ e. int_lt (pos 0) (side_of e.0 e.1 origin (centre i j))) (edges vs) (λ e. ap (int_lt (pos 0)) (side-turn e.0 e.1 h i j l))

-- a sum from the other end
sum-first : (n : ℕ) (f : ℕ → ℕ) → sum_below (suc n) f ≡ f 0 + sum_below n (λ i. f (suc i))
sum-first zero f = omega arith
sum-first (suc n) f = let h = sum-first n f in omega arith

sum-reverse : (n : ℕ) (f : ℕ → ℕ) → sum_below n (λ j. f (n - 1 - j)) ≡ sum_below n f
sum-reverse zero f = refl
sum-reverse (suc n) f =
    let rest : sum_below n (λ j. f (suc n - 1 - j)) ≡ sum_below n (λ j. f (suc (n - 1 - j))) =
    sum-agree n _ _ (λ j l. ap f (let e : suc n - 1 - j ≡ suc (n - 1 - j) = omega arith in e)) in
    let last : f (suc n - 1 - n) ≡ f 0 = ap f (let e : suc n - 1 - n ≡ 0 = omega arith in e) in
    let ih = sum-reverse n (λ i. f (suc i)) in
    let first = sum-first n f in
    omega (arith, rest, last, ih, first)

-- the cells of a shape of this width and height, turned
pub cells-rot : (vs : List Point) (w h : ℕ)
    → sum_below h (λ j. sum_below w (λ i. if is_inside vs origin (centre i j) then 1 else 0))
    ≡ sum_below w (λ j. sum_below h (λ i. if is_inside (map (rot h) vs) origin (centre i j) then 1 else 0))
cells-rot vs w h =
    let turn : ℕ → ℕ → ℕ = λ i j. if is_inside (map (rot h) vs) origin (centre i j) then 1 else 0 in
    sum-agree h _ (λ j. sum_below w (λ i. turn (h - 1 - j) i))
    (λ j l. sum-agree w _ _ (λ i m. ap (λ b. if b then 1 else 0) (sym (inside-turn vs h i j l))))
    ∙ sum-swap h w (λ j i. turn (h - 1 - j) i)
    ∙ sum-agree w _ _ (λ i m. sum-reverse h (λ k. turn k i))

-- extents of a shape that is mirrored in one direction, or kept
min_flips : (f k : Point → ℤ) (g : Point → Point) (c : ℤ) → ((v : Point) → f (g v) ≡ (c -ℤ k v)) → (a : ℤ) (us : List Point)
    → fold int_min (c -ℤ a) (map f (map g us)) ≡ (c -ℤ fold int_max a (map k us))
min_flips f k g c h a [] = refl
min_flips f k g c h a (u ∷ us) =
    ap (λ z. fold int_min (int_min (c -ℤ a) z) (map f (map g us))) (h u)
    ∙ ap (λ z. fold int_min z (map f (map g us))) (min_flip c a (k u)) ∙ min_flips f k g c h (int_max a (k u)) us

max_flips : (f k : Point → ℤ) (g : Point → Point) (c : ℤ) → ((v : Point) → f (g v) ≡ (c -ℤ k v)) → (a : ℤ) (us : List Point)
    → fold int_max (c -ℤ a) (map f (map g us)) ≡ (c -ℤ fold int_min a (map k us))
max_flips f k g c h a [] = refl
max_flips f k g c h a (u ∷ us) =
    ap (λ z. fold int_max (int_max (c -ℤ a) z) (map f (map g us))) (h u)
    ∙ ap (λ z. fold int_max z (map f (map g us))) (max_flip c a (k u)) ∙ max_flips f k g c h (int_min a (k u)) us

map_map : {A B C : Type 0} (f : B → C) (g : A → B) (k : A → C) → ((a : A) → f (g a) ≡ k a) → (xs : List A) → map f (map g xs) ≡ map k xs
map_map f g k h [] = refl
map_map f g k h (x ∷ xs) = ap (λ y. y ∷ map f (map g xs)) (h x) ∙ ap (λ ys. k x ∷ ys) (map_map f g k h xs)

least-flip : (f k : Point → ℤ) (g : Point → Point) (c : ℤ) → ((v : Point) → f (g v) ≡ (c -ℤ k v)) → (v : Point) (vs : List Point)
    → least f (map g (v ∷ vs)) ≡ (c -ℤ greatest k (v ∷ vs))
least-flip f k g c h v vs =
    ap (λ z. fold int_min z (map f (map g vs))) (h v) ∙ min_flips f k g c h (k v) vs

greatest-flip : (f k : Point → ℤ) (g : Point → Point) (c : ℤ) → ((v : Point) → f (g v) ≡ (c -ℤ k v)) → (v : Point) (vs : List Point)
    → greatest f (map g (v ∷ vs)) ≡ (c -ℤ least k (v ∷ vs))
greatest-flip f k g c h v vs =
    ap (λ z. fold int_max z (map f (map g vs))) (h v) ∙ max_flips f k g c h (k v) vs

least-same : (f k : Point → ℤ) (g : Point → Point) → ((v : Point) → f (g v) ≡ k v) → (v : Point) (vs : List Point) → least f (map g (v ∷ vs)) ≡ least k (v ∷ vs)
least-same f k g h v vs = ap (λ z. fold int_min z (map f (map g vs))) (h v) ∙ ap (fold int_min (k v)) (map_map f g k h vs)

greatest-same : (f k : Point → ℤ) (g : Point → Point) → ((v : Point) → f (g v) ≡ k v) → (v : Point) (vs : List Point) → greatest f (map g (v ∷ vs)) ≡ greatest k (v ∷ vs)
greatest-same f k g h v vs = ap (λ z. fold int_max z (map f (map g vs))) (h v) ∙ ap (fold int_max (k v)) (map_map f g k h vs)

not_below : (z : ℤ) → pos 0 ≤ℤ z → z ≡ pos (unsigned_abs z)
not_below (pos n) h = refl
not_below (negsuc n) h = absurd (omega (arith, ints))

pub least_le_greatest : (f : Point → ℤ) (v : Point) (vs : List Point) → least f (v ∷ vs) ≤ℤ greatest f (v ∷ vs)
least_le_greatest f v vs =
    let a = (fold-int_min_bounds (f v) (map f vs) (least f (v ∷ vs)) refl).0 in
    let b = (fold-int_max_bounds (f v) (map f vs) (greatest f (v ∷ vs)) refl).0 in omega (arith, ints, a, b)

pub high_x : (vs : List Point) → IsNormal vs → greatest (λ p. p.x) vs ≡ pos (reach_x vs)
high_x vs n = not_below (greatest (λ p. p.x) vs)
    (subst (λ z. z ≤ℤ greatest (λ p. p.x) vs) n.low_x
    (subst (λ ws. least (λ p. p.x) ws ≤ℤ greatest (λ p. p.x) ws) (sym n.is) (least_le_greatest (λ p. p.x) n.first n.others)))

pub high_y : (vs : List Point) → IsNormal vs → greatest (λ p. p.y) vs ≡ pos (reach_y vs)
high_y vs n = not_below (greatest (λ p. p.y) vs)
    (subst (λ z. z ≤ℤ greatest (λ p. p.y) vs) n.low_y
    (subst (λ ws. least (λ p. p.y) ws ≤ℤ greatest (λ p. p.y) ws) (sym n.is) (least_le_greatest (λ p. p.y) n.first n.others)))

abbrev pub quarter : Point → Point
quarter v = record { x = neg_ℤ v.y; y = v.x }

point_is : (a b c d : ℤ) → a ≡ c → b ≡ d → ◌≡◌ {A = Point} (record { x = a; y = b }) (record { x = c; y = d })
point_is a b c d e f = ap (λ a. record { x = a; y = b }) e ∙ ap (λ b. record { x = c; y = b }) f

-- one quarter turn of a normal shape
pub turn_is : (vs : List Point) → IsNormal vs → shifted (map quarter vs) ≡ map (rot (reach_y vs)) vs
turn_is vs n =
    let low : least (λ p. p.x) (map quarter vs) ≡ (pos 0 -ℤ pos (reach_y vs)) =
    ap (λ ws. least (λ p. p.x) (map quarter ws)) n.is
    ∙ least-flip (λ p. p.x) (λ p. p.y) quarter (pos 0) (λ v. omega (arith, ints)) n.first n.others
    ∙ ap (λ ws. pos 0 -ℤ greatest (λ p. p.y) ws) (sym n.is) ∙ ap (λ z. pos 0 -ℤ z) (high_y vs n) in
    let left : least (λ p. p.y) (map quarter vs) ≡ pos 0 =
    ap (λ ws. least (λ p. p.y) (map quarter ws)) n.is
    ∙ least-same (λ p. p.y) (λ p. p.x) quarter (λ v. refl) n.first n.others
    ∙ ap (least (λ p. p.x)) (sym n.is) ∙ n.low_x in
    map_map (λ v. record { x = v.x -ℤ least (λ p. p.x) (map quarter vs); y = v.y -ℤ least (λ p. p.y) (map quarter vs) }) quarter (rot (reach_y vs))
    (λ v. point_is _ _ _ _
    (ap (λ z. neg_ℤ v.y -ℤ z) low ∙ (let e : (neg_ℤ v.y -ℤ (pos 0 -ℤ pos (reach_y vs))) ≡ (pos (reach_y vs) -ℤ v.y) = omega (arith, ints) in e))
    (ap (λ z. v.x -ℤ z) left ∙ (let e : (v.x -ℤ pos 0) ≡ v.x = omega (arith, ints) in e))) vs

-- the turned shape is normal, as wide as the shape is high and as high as it is wide
pub rot-normal : (vs : List Point) → IsNormal vs → IsNormal (map (rot (reach_y vs)) vs)
rot-normal vs n = record {
  first = rot (reach_y vs) n.first;
  others = map (rot (reach_y vs)) n.others;
  is = ap (map (rot (reach_y vs))) n.is;
  low_x = ap (λ ws. least (λ p. p.x) (map (rot (reach_y vs)) ws)) n.is
      ∙ least-flip (λ p. p.x) (λ p. p.y) (rot (reach_y vs)) (pos (reach_y vs)) (λ v. refl) n.first n.others
      ∙ ap (λ ws. pos (reach_y vs) -ℤ greatest (λ p. p.y) ws) (sym n.is) ∙ ap (λ z. pos (reach_y vs) -ℤ z) (high_y vs n)
      ∙ (let e : (pos (reach_y vs) -ℤ pos (reach_y vs)) ≡ pos 0 = omega (arith, ints) in e);
  low_y = ap (λ ws. least (λ p. p.y) (map (rot (reach_y vs)) ws)) n.is
      ∙ least-same (λ p. p.y) (λ p. p.x) (rot (reach_y vs)) (λ v. refl) n.first n.others
      ∙ ap (least (λ p. p.x)) (sym n.is) ∙ n.low_x;
}

pub rot-reach_x : (vs : List Point) → IsNormal vs → reach_x (map (rot (reach_y vs)) vs) ≡ reach_y vs
rot-reach_x vs n =
    ap unsigned_abs
    (ap (λ ws. greatest (λ p. p.x) (map (rot (reach_y vs)) ws)) n.is
    ∙ greatest-flip (λ p. p.x) (λ p. p.y) (rot (reach_y vs)) (pos (reach_y vs)) (λ v. refl) n.first n.others
    ∙ ap (λ ws. pos (reach_y vs) -ℤ least (λ p. p.y) ws) (sym n.is) ∙ ap (λ z. pos (reach_y vs) -ℤ z) n.low_y
    ∙ (let e : (pos (reach_y vs) -ℤ pos 0) ≡ pos (reach_y vs) = omega (arith, ints) in e))

pub rot-reach_y : (vs : List Point) → IsNormal vs → reach_y (map (rot (reach_y vs)) vs) ≡ reach_x vs
rot-reach_y vs n =
    ap unsigned_abs
    (ap (λ ws. greatest (λ p. p.y) (map (rot (reach_y vs)) ws)) n.is
    ∙ greatest-same (λ p. p.y) (λ p. p.x) (rot (reach_y vs)) (λ v. refl) n.first n.others
    ∙ ap (greatest (λ p. p.x)) (sym n.is))

-- turns of a normal shape are normal, and keep its cells
pub turns_keep : (q : ℕ) (vs : List Point) → IsNormal vs → IsNormal (turned q vs) × (cells (turned q vs) ≡ cells vs)
turns_keep zero vs n = (n, refl)
turns_keep (suc q) vs n =
    let (m, same) = turns_keep q vs n in
    (subst IsNormal (sym (turn_is (turned q vs) m)) (rot-normal (turned q vs) m), one_turn (turned q vs) m ∙ same)
  where
    one_turn : (ws : List Point) → IsNormal ws → cells (shifted (map quarter ws)) ≡ cells ws
    one_turn ws m =
        ap cells (turn_is ws m)
        ∙ ap (λ r. sum_below r (λ j. sum_below (reach_x (map (rot (reach_y ws)) ws)) (λ i. if is_inside (map (rot (reach_y ws)) ws) origin (centre i j) then 1 else 0))) (rot-reach_y ws m)
        ∙ ap (λ r. sum_below (reach_x ws) (λ j. sum_below r (λ i. if is_inside (map (rot (reach_y ws)) ws) origin (centre i j) then 1 else 0))) (rot-reach_x ws m)
        ∙ sym (cells-rot ws (reach_x ws) (reach_y ws))
