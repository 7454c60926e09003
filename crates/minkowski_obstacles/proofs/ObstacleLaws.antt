-- The sides of a sum decide whether two footprints overlap.
use Rattle.std.proofs.Common.{◌≡◌, refl, sym, ap, ◌∙◌, subst, arith, ℕ, zero, suc, ◌+◌, ◌<◌, List, [], ◌∷◌, ◌++◌, length, map, take, get_or, Bool, true, false, ◌↔◌, ◌⊎◌, inl, inr}
use Rattle.std.specs.List.{All, Any}
use Rattle.std.proofs.lemmas.Int.{ints}
use Rattle.std.proofs.lemmas.List.Elements.{All-nil, All-cons, All-head, All-tail, All-more}
use Rattle.std.proofs.lemmas.List.{take_more}
use Rattle.shape_exact.specs.declared.point.Point.{Point}
use Rattle.shape_exact.specs.Shapes.{IsShape, origin}
use Rattle.shape_exact.proofs.RingLaws.{ring, linear, one-mul, positive_mul}
use Rattle.shape_exact.specs.Plane.{Edge, Mark, side, Every, mark_of, Inside}
use Rattle.shape_exact.proofs.LineLaws.{every_then}
use Rattle.shape_exact.proofs.LoopLaws.{separated}
use Rattle.shape_exact.proofs.MeetLaws.{meet}
use Rattle.shape_exact.specs.Sums.{shift, value as height}
use Rattle.shape_exact.proofs.SumLaws.{sum_sees, sum_apart, every_map}
use Rattle.shape_exact.proofs.MoveLaws.{convex_shifted, seen_shifted, some_map}
use Rattle.shape_exact.proofs.WallLaws.{not_right}
use Rattle.shape_exact.proofs.FormLaws.{not_left}
use Rattle.shape_exact.proofs.BridgeLaws.{convex_from, thick_from, every_from_All, some_from_Any}
use Rattle.shape_exact.proofs.ApartLaws.{mark, inside_from, inside_to}
use Rattle.minkowski_obstacles.specs.declared.side.Side.{Side}
use Rattle.minkowski_obstacles.specs.Sums.{wall, value, IsSum}
use Rattle.minkowski_obstacles.specs.Pairs.{AreApartAt, Overlap, IsEmptyRow, IsRow, offset}
use Rattle.minkowski_obstacles.proofs.JoinLaws.{all_hold, any_of_all}
use Rattle.minkowski_obstacles.specs.declared.interval.Interval.{Interval}
use Rattle.minkowski_obstacles.specs.Intervals.{Holds}
use lib.IntN.{ℤ, pos, negsuc, ◌+ℤ◌, ◌-ℤ◌, ◌*ℤ◌, neg_ℤ}
use lib.Signed.{◌<ℤ◌, ◌≤ℤ◌, lt_z}

-- a shift by nothing changes nothing
shift_none : (vs : List Point) → map (shift origin) vs ≡ vs
shift_none [] = refl
shift_none (v ∷ vs) = ap (λ (ws : List Point). shift origin v ∷ ws) (shift_none vs) ∙ ap (λ (w : Point). w ∷ vs) (same v)
  where
    none : (a : ℤ) → a +ℤ pos 0 ≡ a
    none a = omega (arith, linear)

    same : (v : Point) → shift origin v ≡ v
    same v = ap (λ (x : ℤ). record { x = x; y = v.y +ℤ pos 0 }) (none v.x) ∙ ap (λ (y : ℤ). record { x = v.x; y = y }) (none v.y)

spot_from : (fs ms : List Point) (w : Point) (x y n : ℤ) → Inside (record { x = x; y = y; n = n }) fs → Inside (record { x = x; y = y; n = n }) (map (shift w) ms) → Overlap (record { fixed = fs; moving = ms }) w
spot_from fs ms w x y (pos n) i j = (
  record { x = x; y = y; n = n },
  (let h = i.0 in omega (arith, ints)),
  inside_to fs origin (record { x = x; y = y; n = n }) (subst (λ (vs : List Point). Inside (record { x = x; y = y; n = pos n }) vs) (sym (shift_none fs)) i),
  inside_to ms w (record { x = x; y = y; n = n }) j,
)
spot_from fs ms w x y (negsuc n) i j = absurd (let h = i.0 in omega (arith, ints))

-- an offset strictly on the inner side of each side: the footprints overlap
pub inside_sum : (fs ms : List Point) (ss : List Side) (w : Point) → IsShape fs → IsShape ms → IsSum fs ms ss → All (λ s. pos 0 <ℤ value s w) ss → Overlap (record { fixed = fs; moving = ms }) w
inside_sum [] ms ss w f m u h = absurd (let n = f.some in omega arith)
inside_sum (p ∷ ps) [] ss w f m u h = absurd (let n = m.some in omega arith)
inside_sum (p ∷ ps) (q ∷ qs) ss w f m u h =
    let fs = p ∷ ps in
    let ms = q ∷ qs in
    let k = all_hold fs ms u.all ss w (convex_from fs f) (convex_from ms m) u.sum u.joined h in
    let s = sum_sees fs ms (map wall u.all) w u.sum (convex_from ms m) (every_map wall (λ t. pos 0 <ℤ height t w) u.all (every_from_All (λ t. pos 0 <ℤ value t w) u.all k)) in
    let z = meet p ps (shift w q) (map (shift w) qs) (convex_from fs f) (convex_shifted w ms (convex_from ms m)) (thick_from fs f) (seen_shifted w ms ms (thick_from ms m)) s.0 s.1 in
    spot_from fs ms w z.0.x z.0.y z.0.n z.1 z.2

-- an offset that is not: they are apart
pub outside_sum : (fs ms : List Point) (ss : List Side) (w : Point) → IsShape fs → IsShape ms → IsSum fs ms ss → Any (λ s. value s w ≤ℤ pos 0) ss → AreApartAt (record { fixed = fs; moving = ms }) w
outside_sum [] ms ss w f m u h = absurd (let n = f.some in omega arith)
outside_sum (p ∷ ps) [] ss w f m u h = absurd (let n = m.some in omega arith)
outside_sum (p ∷ ps) (q ∷ qs) ss w f m u h = λ s n i j.
    sum_apart p ps q qs (map wall u.all) w u.sum (some_map wall (λ t. height t w ≤ℤ pos 0) u.all (some_from_Any (λ t. value t w ≤ℤ pos 0) u.all (any_of_all u.all ss w u.joined h))) (mark s)
    (subst (λ (vs : List Point). Inside (mark s) vs) (shift_none (p ∷ ps)) (inside_from (p ∷ ps) origin s n i))
    (inside_from (q ∷ qs) w s n j)

-- ---- a mark inside lies right of a wall that no vertex passes
left_wall : ℤ → Edge
left_wall k = record { from = record { x = k; y = pos 0 }; to = record { x = k; y = pos 1 } }

left_at : (k x n d : ℤ) → (k -ℤ k) *ℤ d -ℤ pos 1 *ℤ (x -ℤ n *ℤ k) ≡ n *ℤ k -ℤ x
left_at k x n d = simp ring (omega (arith, linear))

left_side : (k : ℤ) (z : Mark) → side (left_wall k) z ≡ z.n *ℤ k -ℤ z.x
unfolding left_wall
left_side k z = left_at k z.x z.n (z.y -ℤ z.n *ℤ pos 0)

right_of : (k : ℤ) (z : Mark) (p : Point) (ps : List Point) → Inside z (p ∷ ps) → Every (λ v. k ≤ℤ v.x) (p ∷ ps) → (z.n *ℤ k) ≤ℤ z.x
right_of k z p ps i h = by (lt_z z.x (z.n *ℤ k)) refl
  where
    at_vertex : (v : Point) → k ≤ℤ v.x → side (left_wall k) (mark_of v) ≤ℤ pos 0
    at_vertex v l = subst (λ (n : ℤ). n ≤ℤ pos 0) (sym (left_side k (mark_of v))) (low v.x k l)
      where
        low : (x k : ℤ) → k ≤ℤ x → (pos 1 *ℤ k -ℤ x) ≤ℤ pos 0
        low x k l = let e = one-mul k in omega (arith, linear)

    by : (t : Bool) → lt_z z.x (z.n *ℤ k) ≡ t → (z.n *ℤ k) ≤ℤ z.x
    by false e = omega (arith, linear)
    by true e = absurd (separated (left_wall k) z p ps i (subst (λ (n : ℤ). pos 0 <ℤ n) (sym (left_side k z)) (omega (arith, linear))) (every_then (λ v. k ≤ℤ v.x) (λ v. side (left_wall k) (mark_of v) ≤ℤ pos 0) at_vertex (p ∷ ps) h))

-- ---- far to the left or to the right the footprints are apart
placed_left : (w : Point) (vs : List Point) → IsShape vs → Every (λ v. w.x ≤ℤ v.x) (map (shift w) vs)
placed_left w vs s = every_map (shift w) (λ v. w.x ≤ℤ v.x) vs (every_then (λ v. pos 0 ≤ℤ v.x) (λ v. w.x ≤ℤ (v.x +ℤ w.x)) (λ v h. by v.x w.x h) vs (every_from_All (λ v. pos 0 ≤ℤ v.x) vs (not_left vs s)))
  where
    by : (a b : ℤ) → pos 0 ≤ℤ a → b ≤ℤ (a +ℤ b)
    by a b h = omega (arith, linear)

placed_right : (w : Point) (vs : List Point) → IsShape vs → Every (λ v. v.x ≤ℤ (pos 2000 +ℤ w.x)) (map (shift w) vs)
placed_right w vs s = every_map (shift w) (λ v. v.x ≤ℤ (pos 2000 +ℤ w.x)) vs (every_then (λ v. (v.x ≤ℤ pos 2000) × (v.y ≤ℤ pos 2000)) (λ v. (v.x +ℤ w.x) ≤ℤ (pos 2000 +ℤ w.x)) (λ v h. by v.x w.x h.0) vs (every_from_All (λ v. (v.x ≤ℤ pos 2000) × (v.y ≤ℤ pos 2000)) vs s.reach))
  where
    by : (a b : ℤ) → a ≤ℤ pos 2000 → (a +ℤ b) ≤ℤ (pos 2000 +ℤ b)
    by a b h = omega (arith, linear)

no_right : (n z w : ℤ) → pos 0 <ℤ n → (n *ℤ w) ≤ℤ z → z ≤ℤ (n *ℤ pos 2000) → pos 2000 <ℤ w → ⊥
no_right n z w h a b c =
    let m = positive_mul n (w -ℤ pos 2000) h (omega (arith, linear)) in
    let e : n *ℤ (w -ℤ pos 2000) ≡ n *ℤ w -ℤ n *ℤ pos 2000 = simp ring in
    omega (arith, linear)

no_left : (n z w : ℤ) → pos 0 <ℤ n → (n *ℤ pos 0) ≤ℤ z → z ≤ℤ (n *ℤ (pos 2000 +ℤ w)) → w <ℤ negsuc 1999 → ⊥
no_left n z w h a b c =
    let m = positive_mul n (neg_ℤ (pos 2000 +ℤ w)) h (omega (arith, linear)) in
    let e : n *ℤ neg_ℤ (pos 2000 +ℤ w) ≡ neg_ℤ (n *ℤ (pos 2000 +ℤ w)) = simp ring in
    let f : n *ℤ pos 0 ≡ pos 0 = simp ring in
    omega (arith, linear)

pub apart_right : (fs ms : List Point) (w : Point) → IsShape fs → IsShape ms → pos 2000 <ℤ w.x → AreApartAt (record { fixed = fs; moving = ms }) w
apart_right [] ms w f m h = absurd (let n = f.some in omega arith)
apart_right (p ∷ ps) [] w f m h = absurd (let n = m.some in omega arith)
apart_right (p ∷ ps) (q ∷ qs) w f m h = λ s n i j.
    let a = subst (λ (vs : List Point). Inside (mark s) vs) (shift_none (p ∷ ps)) (inside_from (p ∷ ps) origin s n i) in
    let b = inside_from (q ∷ qs) w s n j in
    no_right (pos s.n) s.x w.x a.0 (right_of w.x (mark s) (shift w q) (map (shift w) qs) b (placed_left w (q ∷ qs) m))
    (not_right (pos 2000) (mark s) p ps a (every_then (λ v. (v.x ≤ℤ pos 2000) × (v.y ≤ℤ pos 2000)) (λ v. v.x ≤ℤ pos 2000) (λ v l. l.0) (p ∷ ps) (every_from_All (λ v. (v.x ≤ℤ pos 2000) × (v.y ≤ℤ pos 2000)) (p ∷ ps) f.reach))) h

pub apart_left : (fs ms : List Point) (w : Point) → IsShape fs → IsShape ms → w.x <ℤ negsuc 1999 → AreApartAt (record { fixed = fs; moving = ms }) w
apart_left [] ms w f m h = absurd (let n = f.some in omega arith)
apart_left (p ∷ ps) [] w f m h = absurd (let n = m.some in omega arith)
apart_left (p ∷ ps) (q ∷ qs) w f m h = λ s n i j.
    let a = subst (λ (vs : List Point). Inside (mark s) vs) (shift_none (p ∷ ps)) (inside_from (p ∷ ps) origin s n i) in
    let b = inside_from (q ∷ qs) w s n j in
    no_left (pos s.n) s.x w.x a.0 (right_of (pos 0) (mark s) p ps a (every_from_All (λ v. pos 0 ≤ℤ v.x) (p ∷ ps) (not_left (p ∷ ps) f)))
    (not_right (pos 2000 +ℤ w.x) (mark s) (shift w q) (map (shift w) qs) b (placed_right w (q ∷ qs) m)) h

-- ---- the whole x of a row
-- an offset is strictly on the inner side of each side, or not on that of one
split_sides : (ss : List Side) (w : Point) → All (λ s. pos 0 <ℤ value s w) ss ⊎ Any (λ s. value s w ≤ℤ pos 0) ss
split_sides [] w = inl (All-nil (λ s. pos 0 <ℤ value s w))
split_sides (s ∷ ss) w = by (lt_z (pos 0) (value s w)) refl (split_sides ss w)
  where
    yes : (a : ℤ) → lt_z (pos 0) a ≡ true → pos 0 <ℤ a
    yes a e = omega (arith, linear)

    no : (a : ℤ) → lt_z (pos 0) a ≡ false → a ≤ℤ pos 0
    no a e = omega (arith, linear)

    later : Any (λ t. value t w ≤ℤ pos 0) ss → Any (λ t. value t w ≤ℤ pos 0) (s ∷ ss)
    later (k, t, l, e, h) = (suc k, t, omega arith, e, h)

    by : (t : Bool) → lt_z (pos 0) (value s w) ≡ t → All (λ t. pos 0 <ℤ value t w) ss ⊎ Any (λ t. value t w ≤ℤ pos 0) ss → All (λ t. pos 0 <ℤ value t w) (s ∷ ss) ⊎ Any (λ t. value t w ≤ℤ pos 0) (s ∷ ss)
    by false e r = inr (zero, s, omega arith, refl, no (value s w) e)
    by true e (inl a) = inl (All-cons (λ t. pos 0 <ℤ value t w) s ss (yes (value s w) e) a)
    by true e (inr a) = inr (later a)

-- what the interval of a row holds
abbrev pub IsHeld : List Side → ℤ → ℤ → Type 0
IsHeld ss y x = ((negsuc 1999 ≤ℤ x) × (x ≤ℤ pos 2000)) × All (λ s. pos 0 <ℤ value s (offset x y)) ss

not_held : (fs ms : List Point) (ss : List Side) (x y : ℤ) → IsShape fs → IsShape ms → IsSum fs ms ss → (IsHeld ss y x → ⊥) → AreApartAt (record { fixed = fs; moving = ms }) (offset x y)
not_held fs ms ss x y f m u h = low (lt_z x (negsuc 1999)) refl
  where
    small : (a : ℤ) → lt_z a (negsuc 1999) ≡ true → a <ℤ negsuc 1999
    small a e = omega (arith, linear)

    some : (a : ℤ) → lt_z a (negsuc 1999) ≡ false → negsuc 1999 ≤ℤ a
    some a e = omega (arith, linear)

    large : (a : ℤ) → lt_z (pos 2000) a ≡ true → pos 2000 <ℤ a
    large a e = omega (arith, linear)

    few : (a : ℤ) → lt_z (pos 2000) a ≡ false → a ≤ℤ pos 2000
    few a e = omega (arith, linear)

    sides : negsuc 1999 ≤ℤ x → x ≤ℤ pos 2000 → All (λ s. pos 0 <ℤ value s (offset x y)) ss ⊎ Any (λ s. value s (offset x y) ≤ℤ pos 0) ss → AreApartAt (record { fixed = fs; moving = ms }) (offset x y)
    sides a b (inl k) = absurd (h ((a, b), k))
    sides a b (inr k) = outside_sum fs ms ss (offset x y) f m u k

    high : negsuc 1999 ≤ℤ x → (t : Bool) → lt_z (pos 2000) x ≡ t → AreApartAt (record { fixed = fs; moving = ms }) (offset x y)
    high a true e = apart_right fs ms (offset x y) f m (large x e)
    high a false e = sides a (few x e) (split_sides ss (offset x y))

    low : (t : Bool) → lt_z x (negsuc 1999) ≡ t → AreApartAt (record { fixed = fs; moving = ms }) (offset x y)
    low true e = apart_left fs ms (offset x y) f m (small x e)
    low false e = high (some x e) (lt_z (pos 2000) x) refl

before : (a b c : ℤ) → a <ℤ b → b ≤ℤ a → ⊥
before a b c h k = omega (arith, linear)

empty : (a b x : ℤ) → b <ℤ a → a ≤ℤ x → x ≤ℤ b → ⊥
empty a b x h i j = omega (arith, linear)

-- the interval of a row has its ends
pub row_is : (fs ms : List Point) (ss : List Side) (y : ℤ) (s : Interval) → IsShape fs → IsShape ms → IsSum fs ms ss → ((x : ℤ) → Holds s x ↔ IsHeld ss y x) → s.low ≤ℤ s.high → IsRow (record { fixed = fs; moving = ms }) y s.low s.high
row_is fs ms ss y s f m u h l = record {
  some = l;
  inside = λ x a b. inside_sum fs ms ss (offset x y) f m u ((h x).0 (a, b)).1;
  left = λ x a. not_held fs ms ss x y f m u (λ k. before x s.low x a ((h x).1 k).0);
  right = λ x a. not_held fs ms ss x y f m u (λ k. before s.high x x a ((h x).1 k).1);
}

pub row_none : (fs ms : List Point) (ss : List Side) (y : ℤ) (s : Interval) → IsShape fs → IsShape ms → IsSum fs ms ss → ((x : ℤ) → Holds s x ↔ IsHeld ss y x) → s.high <ℤ s.low → IsEmptyRow (record { fixed = fs; moving = ms }) y
row_none fs ms ss y s f m u h l = λ x. not_held fs ms ss x y f m u (λ k. empty s.low s.high x l ((h x).1 k).0 ((h x).1 k).1)

-- ---- one more side of a row
slope_at : (dx dy ax ay x y : ℤ) → dx *ℤ (y -ℤ ay) -ℤ dy *ℤ (x -ℤ ax) ≡ (dx *ℤ (y -ℤ ay) +ℤ dy *ℤ ax) -ℤ dy *ℤ x
slope_at dx dy ax ay x y = simp ring (omega (arith, linear))

value_cut : (s : Side) (x y b : ℤ) → b ≡ s.along.x *ℤ (y -ℤ s.at.y) +ℤ s.along.y *ℤ s.at.x → (pos 0 <ℤ value s (offset x y)) ↔ ((s.along.y *ℤ x) <ℤ b)
value_cut s x y b e = by (value s (offset x y)) (s.along.y *ℤ x) b (slope_at s.along.x s.along.y s.at.x s.at.y x y ∙ ap (λ (k : ℤ). k -ℤ s.along.y *ℤ x) (sym e))
  where
    by : (v p b : ℤ) → v ≡ b -ℤ p → (pos 0 <ℤ v) ↔ (p <ℤ b)
    by v p b e = (λ h. omega (arith, linear), λ h. omega (arith, linear))

pub all_push_back : {A : Type 0} (P : A → Type 0) (xs : List A) (y : A) → All P (xs ++ y ∷ []) → All P xs × P y
all_push_back P [] y h = (All-nil P, All-head P y [] h)
all_push_back P (x ∷ xs) y h = let r = all_push_back P xs y (All-tail P x (xs ++ y ∷ []) h) in (All-cons P x xs (All-head P x (xs ++ y ∷ []) h) r.0, r.1)

pub held_more : (ss : List Side) (i : ℕ) (d : Side) (y b : ℤ) (r t : Interval) → i < length ss → b ≡ (get_or ss i d).along.x *ℤ (y -ℤ (get_or ss i d).at.y) +ℤ (get_or ss i d).along.y *ℤ (get_or ss i d).at.x
    → ((x : ℤ) → Holds r x ↔ IsHeld (take i ss) y x) → ((x : ℤ) → Holds t x ↔ (Holds r x × (((get_or ss i d).along.y *ℤ x) <ℤ b))) → (x : ℤ) → Holds t x ↔ IsHeld (take (i + 1) ss) y x
held_more ss i d y b r t l e h k x = (λ a. there ((k x).0 a), λ a. (k x).1 (back a))
  where
    c : (pos 0 <ℤ value (get_or ss i d) (offset x y)) ↔ (((get_or ss i d).along.y *ℤ x) <ℤ b)
    c = value_cut (get_or ss i d) x y b e

    there : Holds r x × (((get_or ss i d).along.y *ℤ x) <ℤ b) → IsHeld (take (i + 1) ss) y x
    there a = (((h x).0 a.0).0, All-more (λ s. pos 0 <ℤ value s (offset x y)) ss i d l ((h x).0 a.0).1 (c.1 a.1))

    back : IsHeld (take (i + 1) ss) y x → Holds r x × (((get_or ss i d).along.y *ℤ x) <ℤ b)
    back a = let p = all_push_back (λ s. pos 0 <ℤ value s (offset x y)) (take i ss) (get_or ss i d) (subst (λ (xs : List Side). All (λ s. pos 0 <ℤ value s (offset x y)) xs) (take_more ss i d l) a.1) in ((h x).1 (a.0, p.0), c.0 p.1)
