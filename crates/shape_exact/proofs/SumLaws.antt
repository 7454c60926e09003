-- The laws of the sides of the sum of a fixed shape and a mirrored moving one.
use Rattle.std.proofs.Common.{◌≡◌, refl, sym, ap, ◌∙◌, subst, arith, List, [], ◌∷◌, ◌⊎◌, inl, inr, map}
use Rattle.shape_exact.proofs.RingLaws.{ring, linear, zero-mul, positive_mul, positive_cancel}
use lib.IntN.{ℤ, pos, ◌+ℤ◌, ◌-ℤ◌, ◌*ℤ◌, neg_ℤ}
use lib.Signed.{◌<ℤ◌, ◌≤ℤ◌}
use Rattle.shape_exact.specs.declared.point.Point.{Point}
use Rattle.shape_exact.specs.Plane.{Edge, Mark, side, Every, Some_of, mark_of, rim, links, Inside}
use Rattle.shape_exact.specs.Sums.{Side, value, shift, shift_edge, fixed_side, moving_side, Of_fixed, Of_moving, Same_way, Is_sum}
use Rattle.shape_exact.proofs.LoopLaws.{separated}
use Rattle.shape_exact.proofs.LineLaws.{sign, both, every_then}
use Rattle.shape_exact.proofs.HellyLaws.{squares_above}
use Rattle.shape_exact.proofs.ThickLaws.{ends}
use Rattle.shape_exact.proofs.MeetLaws.{Convex, Seen}

fixed_at : (ax ay bx by mx my x y : ℤ) → (bx -ℤ ax) *ℤ (y -ℤ (ay -ℤ my)) -ℤ (by -ℤ ay) *ℤ (x -ℤ (ax -ℤ mx)) ≡ (bx -ℤ ax) *ℤ ((my +ℤ y) -ℤ pos 1 *ℤ ay) -ℤ (by -ℤ ay) *ℤ ((mx +ℤ x) -ℤ pos 1 *ℤ ax)
fixed_at ax ay bx by mx my x y = simp ring (omega (arith, linear))

pub fixed_value : (e : Edge) (m w : Point) → value (fixed_side e m) w ≡ side e (mark_of (shift w m))
fixed_value e m w = fixed_at e.from.x e.from.y e.to.x e.to.y m.x m.y w.x w.y

moving_at : (ax ay bx by ux uy x y : ℤ) → (ax -ℤ bx) *ℤ (y -ℤ (uy -ℤ ay)) -ℤ (ay -ℤ by) *ℤ (x -ℤ (ux -ℤ ax)) ≡ ((bx +ℤ x) -ℤ (ax +ℤ x)) *ℤ (uy -ℤ pos 1 *ℤ (ay +ℤ y)) -ℤ ((by +ℤ y) -ℤ (ay +ℤ y)) *ℤ (ux -ℤ pos 1 *ℤ (ax +ℤ x))
moving_at ax ay bx by ux uy x y = simp ring (omega (arith, linear))

pub moving_value : (f : Edge) (u w : Point) → value (moving_side f u) w ≡ side (shift_edge w f) (mark_of u)
moving_value f u w = moving_at f.from.x f.from.y f.to.x f.to.y u.x u.y w.x w.y

shift_at : (dx dy ax ay vx vy x y : ℤ) → dx *ℤ ((vy +ℤ y) -ℤ pos 1 *ℤ ay) -ℤ dy *ℤ ((vx +ℤ x) -ℤ pos 1 *ℤ ax) ≡ (dx *ℤ (vy -ℤ pos 1 *ℤ ay) -ℤ dy *ℤ (vx -ℤ pos 1 *ℤ ax)) +ℤ (dx *ℤ y -ℤ dy *ℤ x)
shift_at dx dy ax ay vx vy x y = simp ring (omega (arith, linear))

-- a shift moves each vertex equally far inside
pub shift_inside : (e : Edge) (v m w : Point) → side e (mark_of v) ≤ℤ side e (mark_of m) → side e (mark_of (shift w v)) ≤ℤ side e (mark_of (shift w m))
shift_inside e v m w h = by _ _ _ _ _ (shift_at (e.to.x -ℤ e.from.x) (e.to.y -ℤ e.from.y) e.from.x e.from.y v.x v.y w.x w.y) (shift_at (e.to.x -ℤ e.from.x) (e.to.y -ℤ e.from.y) e.from.x e.from.y m.x m.y w.x w.y) h
  where
    by : (a b c d k : ℤ) → c ≡ a +ℤ k → d ≡ b +ℤ k → a ≤ℤ b → c ≤ℤ d
    by a b c d k e f h = omega (arith, linear)

-- where two edges have one direction in the sum, the side of the fixed one is enough
parallel_is : (dx dy gx gy x y : ℤ) → (dx *ℤ dx +ℤ dy *ℤ dy) *ℤ (gx *ℤ y -ℤ gy *ℤ x) ≡ (dx *ℤ gx +ℤ dy *ℤ gy) *ℤ (dx *ℤ y -ℤ dy *ℤ x) -ℤ (dx *ℤ gy -ℤ dy *ℤ gx) *ℤ (dx *ℤ x +ℤ dy *ℤ y)
parallel_is dx dy gx gy x y = simp ring (omega (arith, linear))

pub parallel_at : (dx dy gx gy x y : ℤ) → dx *ℤ gy -ℤ dy *ℤ gx ≡ pos 0 → pos 0 <ℤ (dx *ℤ gx +ℤ dy *ℤ gy) → pos 0 <ℤ (dx *ℤ y -ℤ dy *ℤ x) → pos 0 <ℤ (gx *ℤ y -ℤ gy *ℤ x)
parallel_at dx dy gx gy x y z o h =
    let d = squares_above dx dy y x h (sign dx) (sign dy) in
    let e = parallel_is dx dy gx gy x y ∙ ap (λ (k : ℤ). (dx *ℤ gx +ℤ dy *ℤ gy) *ℤ (dx *ℤ y -ℤ dy *ℤ x) -ℤ k *ℤ (dx *ℤ x +ℤ dy *ℤ y)) z ∙ clear ((dx *ℤ gx +ℤ dy *ℤ gy) *ℤ (dx *ℤ y -ℤ dy *ℤ x)) (dx *ℤ x +ℤ dy *ℤ y) in
    positive_cancel (dx *ℤ dx +ℤ dy *ℤ dy) (gx *ℤ y -ℤ gy *ℤ x) d (subst (λ (k : ℤ). pos 0 <ℤ k) (sym e) (positive_mul _ _ o h))
  where
    clear : (a b : ℤ) → a -ℤ pos 0 *ℤ b ≡ a
    clear a b = let f = zero-mul b in omega (arith, linear)

-- ---- the edges of a shifted line
pub rim-shift : (w : Point) (ps : List Point) → rim (map (shift w) ps) ≡ map (shift_edge w) (rim ps)
rim-shift w [] = refl
rim-shift w (p ∷ ps) = rest p p ps
  where
    rest : (first p : Point) (qs : List Point) → links (shift w first) (shift w p) (map (shift w) qs) ≡ map (shift_edge w) (links first p qs)
    rest first p [] = refl
    rest first p (q ∷ qs) = ap (λ (es : List Edge). (record { from = shift w p; to = shift w q }) ∷ es) (rest first q qs)

pub seen_at : (e : Edge) (vs : List Point) (m w : Point) → Some_of (λ v. v ≡ m) vs → pos 0 <ℤ side e (mark_of (shift w m)) → Some_of (λ v. pos 0 <ℤ side e (mark_of v)) (map (shift w) vs)
seen_at e [] m w s h = absurd s
seen_at e (v ∷ vs) m w (inl q) h = inl (subst (λ (u : Point). pos 0 <ℤ side e (mark_of (shift w u))) (sym q) h)
seen_at e (v ∷ vs) m w (inr s) h = inr (seen_at e vs m w s h)

-- ---- what a list of sides says
shift_edge_at : (dx dy ax ay x y vx vy : ℤ) → dx *ℤ (vy -ℤ pos 1 *ℤ (ay +ℤ y)) -ℤ dy *ℤ (vx -ℤ pos 1 *ℤ (ax +ℤ x)) ≡ (dx *ℤ (vy -ℤ pos 1 *ℤ ay) -ℤ dy *ℤ (vx -ℤ pos 1 *ℤ ax)) -ℤ (dx *ℤ y -ℤ dy *ℤ x)
shift_edge_at dx dy ax ay x y vx vy = simp ring (omega (arith, linear))

same_direction : (a b x : ℤ) → (b +ℤ x) -ℤ (a +ℤ x) ≡ b -ℤ a
same_direction a b x = omega (arith, linear)

-- a shift of the edge moves each vertex equally far out
side-shift_edge : (f : Edge) (w v : Point) → side (shift_edge w f) (mark_of v) ≡ side f (mark_of v) -ℤ ((f.to.x -ℤ f.from.x) *ℤ w.y -ℤ (f.to.y -ℤ f.from.y) *ℤ w.x)
side-shift_edge f w v =
    ap (λ (d : ℤ). d *ℤ (v.y -ℤ pos 1 *ℤ (f.from.y +ℤ w.y)) -ℤ ((f.to.y +ℤ w.y) -ℤ (f.from.y +ℤ w.y)) *ℤ (v.x -ℤ pos 1 *ℤ (f.from.x +ℤ w.x))) (same_direction f.from.x f.to.x w.x)
    ∙ ap (λ (d : ℤ). (f.to.x -ℤ f.from.x) *ℤ (v.y -ℤ pos 1 *ℤ (f.from.y +ℤ w.y)) -ℤ d *ℤ (v.x -ℤ pos 1 *ℤ (f.from.x +ℤ w.x))) (same_direction f.from.y f.to.y w.y)
    ∙ shift_edge_at (f.to.x -ℤ f.from.x) (f.to.y -ℤ f.from.y) f.from.x f.from.y w.x w.y v.x v.y

pub pick : {A : Type 0} (P Q : A → Type 0) (xs : List A) → Some_of P xs → Every Q xs → (a : A) × P a × Q a
pick P Q [] s h = absurd s
pick P Q (x ∷ xs) (inl s) h = (x, s, h.0)
pick P Q (x ∷ xs) (inr s) h = pick P Q xs s h.1

pub some_then : {A : Type 0} (P Q : A → Type 0) (f : (a : A) → P a → Q a) (xs : List A) → Some_of P xs → Some_of Q xs
some_then P Q f [] h = h
some_then P Q f (x ∷ xs) (inl h) = inl (f x h)
some_then P Q f (x ∷ xs) (inr h) = inr (some_then P Q f xs h)

abbrev pub Sees : List Point → Edge → Type 0
Sees vs e = Some_of (λ v. pos 0 <ℤ side e (mark_of v)) vs

-- ---- every side holds w: then each edge sees
side_sees_fixed : (fs ms : List Point) (e : Edge) (ss : List Side) (w : Point) → Every (λ s. pos 0 <ℤ value s w) ss → Some_of (λ s. Of_fixed ms e s) ss → Sees (map (shift w) ms) e
side_sees_fixed fs ms e ss w h s =
    let p = pick (λ s. Of_fixed ms e s) (λ s. pos 0 <ℤ value s w) ss s h in
    seen_at e ms p.1.0 w p.1.1.0 (subst (λ (k : ℤ). pos 0 <ℤ k) (fixed_value e p.1.0 w) (subst (λ (t : Side). pos 0 <ℤ value t w) p.1.2 p.2))

side_sees_moving : (fs ms : List Point) (f : Edge) (ss : List Side) (w : Point) → Every (λ s. pos 0 <ℤ value s w) ss → Some_of (λ s. Of_moving fs f s) ss → Sees fs (shift_edge w f)
side_sees_moving fs ms f ss w h s =
    let p = pick (λ s. Of_moving fs f s) (λ s. pos 0 <ℤ value s w) ss s h in
    let i = subst (λ (k : ℤ). pos 0 <ℤ k) (moving_value f p.1.0 w) (subst (λ (t : Side). pos 0 <ℤ value t w) p.1.2 p.2) in
    some_then (λ v. v ≡ p.1.0) (λ v. pos 0 <ℤ side (shift_edge w f) (mark_of v)) (λ v q. subst (λ (u : Point). pos 0 <ℤ side (shift_edge w f) (mark_of u)) (sym q) i) fs p.1.1.0

-- ---- edges of one direction
opposite : (a b : ℤ) → a -ℤ b ≡ neg_ℤ (b -ℤ a)
opposite a b = omega (arith, linear)

level_at : (dx dy ax ay ex ey vx vy wx wy : ℤ) → (dx *ℤ (ey -ℤ pos 1 *ℤ ay) -ℤ dy *ℤ (ex -ℤ pos 1 *ℤ ax)) -ℤ (dx *ℤ wy -ℤ dy *ℤ wx) ≡ (dx *ℤ (vy -ℤ pos 1 *ℤ ay) -ℤ dy *ℤ (vx -ℤ pos 1 *ℤ ax)) +ℤ (neg_ℤ dx *ℤ ((vy +ℤ wy) -ℤ pos 1 *ℤ ey) -ℤ neg_ℤ dy *ℤ ((vx +ℤ wx) -ℤ pos 1 *ℤ ex))
level_at dx dy ax ay ex ey vx vy wx wy = simp ring (omega (arith, linear))

parallel_level : (e f : Edge) (v w : Point) → side (shift_edge w f) (mark_of e.from) ≡ side f (mark_of v) +ℤ ((f.from.x -ℤ f.to.x) *ℤ ((v.y +ℤ w.y) -ℤ pos 1 *ℤ e.from.y) -ℤ (f.from.y -ℤ f.to.y) *ℤ ((v.x +ℤ w.x) -ℤ pos 1 *ℤ e.from.x))
parallel_level e f v w =
    side-shift_edge f w e.from
    ∙ level_at (f.to.x -ℤ f.from.x) (f.to.y -ℤ f.from.y) f.from.x f.from.y e.from.x e.from.y v.x v.y w.x w.y
    ∙ ap (λ (d : ℤ). side f (mark_of v) +ℤ (d *ℤ ((v.y +ℤ w.y) -ℤ pos 1 *ℤ e.from.y) -ℤ neg_ℤ (f.to.y -ℤ f.from.y) *ℤ ((v.x +ℤ w.x) -ℤ pos 1 *ℤ e.from.x))) (sym (opposite f.from.x f.to.x))
    ∙ ap (λ (d : ℤ). side f (mark_of v) +ℤ ((f.from.x -ℤ f.to.x) *ℤ ((v.y +ℤ w.y) -ℤ pos 1 *ℤ e.from.y) -ℤ d *ℤ ((v.x +ℤ w.x) -ℤ pos 1 *ℤ e.from.x))) (sym (opposite f.from.y f.to.y))

parallel_sees : (e f : Edge) (ms : List Point) (w : Point) → Same_way e f → Every (λ v. pos 0 ≤ℤ side f (mark_of v)) ms → Sees (map (shift w) ms) e → pos 0 <ℤ side (shift_edge w f) (mark_of e.from)
parallel_sees e f [] w p h s = absurd s
parallel_sees e f (v ∷ ms) w p h (inl s) = by _ _ _ (parallel_level e f v w) h.0 (parallel_at (e.to.x -ℤ e.from.x) (e.to.y -ℤ e.from.y) (f.from.x -ℤ f.to.x) (f.from.y -ℤ f.to.y) ((v.x +ℤ w.x) -ℤ pos 1 *ℤ e.from.x) ((v.y +ℤ w.y) -ℤ pos 1 *ℤ e.from.y) p.cross p.dot s)
  where
    by : (a b c : ℤ) → c ≡ a +ℤ b → pos 0 ≤ℤ a → pos 0 <ℤ b → pos 0 <ℤ c
    by a b c e h i = omega (arith, linear)
parallel_sees e f (v ∷ ms) w p h (inr s) = parallel_sees e f ms w p h.1 s

some_more : {A : Type 0} (y : A) (xs : List A) → Every (λ v. Some_of (λ u. u ≡ v) xs) xs → Every (λ v. Some_of (λ u. u ≡ v) (y ∷ xs)) xs
some_more y xs h = every_then (λ v. Some_of (λ u. u ≡ v) xs) (λ v. Some_of (λ u. u ≡ v) (y ∷ xs)) (λ v s. inr s) xs h

itself : {A : Type 0} (xs : List A) → Every (λ v. Some_of (λ u. u ≡ v) xs) xs
itself [] = tt
itself (x ∷ xs) = (inl refl, some_more x xs (itself xs))

pub every_map : {A B : Type 0} (f : A → B) (P : B → Type 0) (xs : List A) → Every (λ a. P (f a)) xs → Every P (map f xs)
every_map f P [] h = tt
every_map f P (x ∷ xs) h = (h.0, every_map f P xs h.1)

pub map_every : {A B : Type 0} (f : A → B) (P : B → Type 0) (xs : List A) → Every P (map f xs) → Every (λ a. P (f a)) xs
map_every f P [] h = tt
map_every f P (x ∷ xs) h = (h.0, map_every f P xs h.1)

-- w is strictly inside every side exactly where no edge of one shape leaves all of the other out
pub sum_sees : (fs ms : List Point) (ss : List Side) (w : Point) → Is_sum fs ms ss → Convex ms → Every (λ s. pos 0 <ℤ value s w) ss → Seen fs (map (shift w) ms) × Seen (map (shift w) ms) fs
sum_sees fs ms ss w u c h =
    let a : Seen fs (map (shift w) ms) = every_then (λ e. Some_of (λ s. Of_fixed ms e s) ss) (λ e. Sees (map (shift w) ms) e) (λ e s. side_sees_fixed fs ms e ss w h s) (rim fs) u.fixed in
    let from = both (Sees (map (shift w) ms)) (λ e. Some_of (λ u. u ≡ e.from) fs × Some_of (λ u. u ≡ e.to) fs) (λ e. Sees (map (shift w) ms) e × Some_of (λ u. u ≡ e.from) fs) (λ e s i. (s, i.0)) (rim fs) a (ends (λ v. Some_of (λ u. u ≡ v) fs) fs (itself fs)) in (
      a,
      subst (λ es. Every (Sees fs) es) (sym (rim-shift w ms)) (every_map (shift_edge w) (Sees fs) (rim ms)
          (both (λ f. Some_of (λ s. Of_moving fs f s) ss ⊎ Some_of (λ e. Same_way e f) (rim fs)) (λ f. Every (λ v. pos 0 ≤ℤ side f (mark_of v)) ms) (λ f. Sees fs (shift_edge w f)) (λ f m i. case f from m i) (rim ms) u.moving c)),
    )
  where
    case : (f : Edge) → Every (λ e. Sees (map (shift w) ms) e × Some_of (λ u. u ≡ e.from) fs) (rim fs) → Some_of (λ s. Of_moving fs f s) ss ⊎ Some_of (λ e. Same_way e f) (rim fs) → Every (λ v. pos 0 ≤ℤ side f (mark_of v)) ms → Sees fs (shift_edge w f)
    case f from (inl s) i = side_sees_moving fs ms f ss w h s
    case f from (inr s) i =
        let p = pick (λ e. Same_way e f) (λ e. Sees (map (shift w) ms) e × Some_of (λ u. u ≡ e.from) fs) (rim fs) s from in
        let j = parallel_sees p.0 f ms w p.1 i p.2.0 in
        some_then (λ v. v ≡ p.0.from) (λ v. pos 0 <ℤ side (shift_edge w f) (mark_of v)) (λ v q. subst (λ (u : Point). pos 0 <ℤ side (shift_edge w f) (mark_of u)) (sym q) j) fs p.2.1

-- ---- a side that does not hold w: then its edge leaves every vertex of the other shape out
out_fixed : (e : Edge) (ms : List Point) (m w : Point) → Every (λ v. side e (mark_of v) ≤ℤ side e (mark_of m)) ms → side e (mark_of (shift w m)) ≤ℤ pos 0 → Every (λ v. side e (mark_of v) ≤ℤ pos 0) (map (shift w) ms)
out_fixed e ms m w h o = every_map (shift w) (λ v. side e (mark_of v) ≤ℤ pos 0) ms (every_then (λ v. side e (mark_of v) ≤ℤ side e (mark_of m)) (λ v. side e (mark_of (shift w v)) ≤ℤ pos 0) (λ v i. by _ _ (shift_inside e v m w i) o) ms h)
  where
    by : (a b : ℤ) → a ≤ℤ b → b ≤ℤ pos 0 → a ≤ℤ pos 0
    by a b h k = omega (arith, linear)

out_moving : (f : Edge) (us : List Point) (u w : Point) → Every (λ v. side f (mark_of v) ≤ℤ side f (mark_of u)) us → side (shift_edge w f) (mark_of u) ≤ℤ pos 0 → Every (λ v. side (shift_edge w f) (mark_of v) ≤ℤ pos 0) us
out_moving f us u w h o = every_then (λ v. side f (mark_of v) ≤ℤ side f (mark_of u)) (λ v. side (shift_edge w f) (mark_of v) ≤ℤ pos 0) (λ v i. by _ _ _ _ _ (side-shift_edge f w v) (side-shift_edge f w u) i o) us h
  where
    by : (a b c d k : ℤ) → c ≡ a -ℤ k → d ≡ b -ℤ k → a ≤ℤ b → d ≤ℤ pos 0 → c ≤ℤ pos 0
    by a b c d k e f h i = omega (arith, linear)

pub sum_apart : (f : Point) (fs : List Point) (m : Point) (ms : List Point) (ss : List Side) (w : Point) → Is_sum (f ∷ fs) (m ∷ ms) ss → Some_of (λ s. value s w ≤ℤ pos 0) ss → (z : Mark) → Inside z (f ∷ fs) → Inside z (map (shift w) (m ∷ ms)) → ⊥
sum_apart f fs m ms ss w u o z i j = elim p.2 [ inl k ↦ fixed k | inr k ↦ moving k ]
  where
    p : (s : Side) × (value s w ≤ℤ pos 0) × (Some_of (λ e. Of_fixed (m ∷ ms) e s) (rim (f ∷ fs)) ⊎ Some_of (λ g. Of_moving (f ∷ fs) g s) (rim (m ∷ ms)))
    p = pick (λ s. value s w ≤ℤ pos 0) (λ s. Some_of (λ e. Of_fixed (m ∷ ms) e s) (rim (f ∷ fs)) ⊎ Some_of (λ g. Of_moving (f ∷ fs) g s) (rim (m ∷ ms))) ss o u.sound

    fixed : Some_of (λ e. Of_fixed (m ∷ ms) e p.0) (rim (f ∷ fs)) → ⊥
    fixed k =
        let q = pick (λ e. Of_fixed (m ∷ ms) e p.0) (λ e. pos 0 <ℤ side e z) (rim (f ∷ fs)) k i.1 in
        let low = subst (λ (n : ℤ). n ≤ℤ pos 0) (fixed_value q.0 q.1.0 w) (subst (λ (t : Side). value t w ≤ℤ pos 0) q.1.2 p.1) in
        separated q.0 z (shift w m) (map (shift w) ms) j q.2 (out_fixed q.0 (m ∷ ms) q.1.0 w q.1.1.1 low)

    moving : Some_of (λ g. Of_moving (f ∷ fs) g p.0) (rim (m ∷ ms)) → ⊥
    moving k =
        let inside : Every (λ g. pos 0 <ℤ side (shift_edge w g) z) (rim (m ∷ ms)) = map_every (shift_edge w) (λ e. pos 0 <ℤ side e z) (rim (m ∷ ms)) (subst (λ es. Every (λ e. pos 0 <ℤ side e z) es) (rim-shift w (m ∷ ms)) j.1) in
        let q = pick (λ g. Of_moving (f ∷ fs) g p.0) (λ g. pos 0 <ℤ side (shift_edge w g) z) (rim (m ∷ ms)) k inside in
        let low = subst (λ (n : ℤ). n ≤ℤ pos 0) (moving_value q.0 q.1.0 w) (subst (λ (t : Side). value t w ≤ℤ pos 0) q.1.2 p.1) in
        separated (shift_edge w q.0) z f fs i q.2 (out_moving q.0 (f ∷ fs) q.1.0 w q.1.1.1 low)
