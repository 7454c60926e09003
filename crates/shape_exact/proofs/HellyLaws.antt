-- Edges of which each three have a point on their inner sides have one point on all their inner sides.
use Rattle.std.proofs.Common.{◌≡◌, sym, ap, ◌∙◌, subst, arith, List, [], ◌∷◌}
use Rattle.common_lists.proofs.NumberLaws.{square_weak}
use Rattle.shape_exact.proofs.RingLaws.{ring, linear, mul-one, one-mul, mul-zero, zero-mul, not_negative_mul, positive_mul}
use lib.IntN.{ℤ, pos, negsuc, ◌+ℤ◌, ◌-ℤ◌, ◌*ℤ◌, neg_ℤ}
use lib.Signed.{◌<ℤ◌, ◌≤ℤ◌}
use Rattle.shape_exact.specs.Plane.{Edge, Mark, side, Every, mark_of}
use Rattle.shape_exact.proofs.LinearLaws.{mix, four}
use Rattle.shape_exact.proofs.NudgeLaws.{nudge}
use Rattle.shape_exact.proofs.LineLaws.{Sign, sign, above, none, below, Place, level, Paired, line_helly, both, every_then}

pub side-mix : (e : Edge) (p : ℤ) (u : Mark) (q : ℤ) (w : Mark) → side e (mix p u q w) ≡ p *ℤ side e u +ℤ q *ℤ side e w
side-mix e p u q w = four p q (e.to.x -ℤ e.from.x) (e.to.y -ℤ e.from.y) e.from.x e.from.y u.x u.y u.n w.x w.y w.n

-- the direction of an edge
along : Edge → Mark
along e = record { x = e.to.x -ℤ e.from.x; y = e.to.y -ℤ e.from.y; n = pos 0 }

unfoldable pub norm : Edge → ℤ
norm e = (e.to.x -ℤ e.from.x) *ℤ (e.to.x -ℤ e.from.x) +ℤ (e.to.y -ℤ e.from.y) *ℤ (e.to.y -ℤ e.from.y)

slope : Edge → Edge → ℤ
slope f s = side s (along f)

height : Edge → Edge → ℤ
height f s = side s (mark_of f.from)

place_of : Edge → Mark → Place
place_of f z = record { t = (f.to.x -ℤ f.from.x) *ℤ (z.x -ℤ z.n *ℤ f.from.x) +ℤ (f.to.y -ℤ f.from.y) *ℤ (z.y -ℤ z.n *ℤ f.from.y); n = norm f *ℤ z.n }

level_at : (sx sy bx by dx dy ax ay x y n : ℤ) → (sx *ℤ (dy -ℤ pos 0 *ℤ by) -ℤ sy *ℤ (dx -ℤ pos 0 *ℤ bx)) *ℤ (dx *ℤ (x -ℤ n *ℤ ax) +ℤ dy *ℤ (y -ℤ n *ℤ ay)) +ℤ (sx *ℤ (ay -ℤ pos 1 *ℤ by) -ℤ sy *ℤ (ax -ℤ pos 1 *ℤ bx)) *ℤ ((dx *ℤ dx +ℤ dy *ℤ dy) *ℤ n) ≡ (dx *ℤ dx +ℤ dy *ℤ dy) *ℤ (sx *ℤ (y -ℤ n *ℤ by) -ℤ sy *ℤ (x -ℤ n *ℤ bx)) -ℤ (sx *ℤ dx +ℤ sy *ℤ dy) *ℤ (dx *ℤ (y -ℤ n *ℤ ay) -ℤ dy *ℤ (x -ℤ n *ℤ ax))
level_at sx sy bx by dx dy ax ay x y n = simp ring (omega (arith, linear))

-- a point on the line of f as a place on it
level-place : (f s : Edge) (z : Mark) → side f z ≡ pos 0 → level (slope f) (height f) (place_of f z) s ≡ norm f *ℤ side s z
unfolding slope height place_of along norm
level-place f s z o =
    let m = (s.to.x -ℤ s.from.x) *ℤ (f.to.x -ℤ f.from.x) +ℤ (s.to.y -ℤ s.from.y) *ℤ (f.to.y -ℤ f.from.y) in
    level_at (s.to.x -ℤ s.from.x) (s.to.y -ℤ s.from.y) s.from.x s.from.y (f.to.x -ℤ f.from.x) (f.to.y -ℤ f.from.y) f.from.x f.from.y z.x z.y z.n
    ∙ less (norm f *ℤ side s z) (m *ℤ side f z) (ap (λ (w : ℤ). m *ℤ w) o ∙ mul-zero m)
  where
    less : (a b : ℤ) → b ≡ pos 0 → a -ℤ b ≡ a
    less a b e = omega (arith, linear)

side-along : (f : Edge) → side f (along f) ≡ pos 0
unfolding along
side-along f = at (f.to.x -ℤ f.from.x) (f.to.y -ℤ f.from.y) f.from.x f.from.y
  where
    at : (dx dy ax ay : ℤ) → dx *ℤ (dy -ℤ pos 0 *ℤ ay) -ℤ dy *ℤ (dx -ℤ pos 0 *ℤ ax) ≡ pos 0
    at dx dy ax ay = simp ring (omega (arith, linear))

side-from : (f : Edge) → side f (mark_of f.from) ≡ pos 0
side-from f = at (f.to.x -ℤ f.from.x) (f.to.y -ℤ f.from.y) f.from.x f.from.y
  where
    at : (dx dy ax ay : ℤ) → dx *ℤ (ay -ℤ pos 1 *ℤ ay) -ℤ dy *ℤ (ax -ℤ pos 1 *ℤ ax) ≡ pos 0
    at dx dy ax ay = simp ring (omega (arith, linear))

square_of_neg : (a : ℤ) → neg_ℤ a *ℤ neg_ℤ a ≡ a *ℤ a
square_of_neg a = simp ring

pub squares_above : (a b c d : ℤ) → pos 0 <ℤ (a *ℤ c -ℤ b *ℤ d) → Sign a → Sign b → pos 0 <ℤ (a *ℤ a +ℤ b *ℤ b)
squares_above a b c d h (above p) q = let x = positive_mul a a p p in let y = square_weak b in omega (arith, linear)
squares_above a b c d h (below p) q = let x = positive_mul (neg_ℤ a) (neg_ℤ a) (omega (arith, linear)) (omega (arith, linear)) in let e = square_of_neg a in let y = square_weak b in omega (arith, linear)
squares_above a b c d h (none z) (above p) = let x = positive_mul b b p p in let y = square_weak a in omega (arith, linear)
squares_above a b c d h (none z) (below p) = let x = positive_mul (neg_ℤ b) (neg_ℤ b) (omega (arith, linear)) (omega (arith, linear)) in let e = square_of_neg b in let y = square_weak a in omega (arith, linear)
squares_above a b c d h (none z) (none o) =
    let e = ap (λ (w : ℤ). w *ℤ c) z ∙ zero-mul c in
    let f = ap (λ (w : ℤ). w *ℤ d) o ∙ zero-mul d in
    absurd (omega (arith, linear))

-- an edge with a point on its inner side has a length
norm_above : (f : Edge) (w : Mark) → pos 0 <ℤ side f w → pos 0 <ℤ norm f
unfolding norm
norm_above f w h = squares_above (f.to.x -ℤ f.from.x) (f.to.y -ℤ f.from.y) (w.y -ℤ w.n *ℤ f.from.y) (w.x -ℤ w.n *ℤ f.from.x) h (sign (f.to.x -ℤ f.from.x)) (sign (f.to.y -ℤ f.from.y))

-- a point on the inner sides of all of hs
abbrev pub Common : List Edge → Type 0
Common hs = (z : Mark) × (pos 0 <ℤ z.n) × Every (λ e. pos 0 <ℤ side e z) hs

-- the point where the way from u, which is not on the inner side of f, to w, which is, meets the line of f
crossing : Edge → Mark → Mark → Mark
crossing f u w = mix (side f w) u (neg_ℤ (side f u)) w

crossing_on : (f : Edge) (u w : Mark) → side f (crossing f u w) ≡ pos 0
unfolding crossing
crossing_on f u w = side-mix f (side f w) u (neg_ℤ (side f u)) w ∙ none_left (side f w) (side f u)
  where
    none_left : (a b : ℤ) → a *ℤ b +ℤ neg_ℤ b *ℤ a ≡ pos 0
    none_left a b = simp ring (omega (arith, linear))

blend : (p q a b : ℤ) → pos 0 <ℤ p → q ≤ℤ pos 0 → pos 0 <ℤ a → pos 0 <ℤ b → pos 0 <ℤ (p *ℤ a +ℤ neg_ℤ q *ℤ b)
blend p q a b hp hq ha hb =
    let x = positive_mul p a hp ha in
    let y = not_negative_mul (neg_ℤ q) b (omega (arith, linear)) (omega (arith, linear)) in
    omega (arith, linear)

crossing_above : (f s : Edge) (u w : Mark) → pos 0 <ℤ side f w → side f u ≤ℤ pos 0 → pos 0 <ℤ side s u → pos 0 <ℤ side s w → pos 0 <ℤ side s (crossing f u w)
unfolding crossing
crossing_above f s u w hw hu su sw = subst (λ (v : ℤ). pos 0 <ℤ v) (sym (side-mix s (side f w) u (neg_ℤ (side f u)) w)) (blend (side f w) (side f u) (side s u) (side s w) hw hu su sw)

crossing-n : (f : Edge) (u w : Mark) → pos 0 <ℤ side f w → side f u ≤ℤ pos 0 → pos 0 <ℤ u.n → pos 0 <ℤ w.n → pos 0 <ℤ (crossing f u w).n
unfolding crossing
crossing-n f u w hw hu nu nw = blend (side f w) (side f u) u.n w.n hw hu nu nw

-- from a point on all of hs and on the line of f, a step towards w, which is on the inner side of f
step_in : (f : Edge) (hs : List Edge) (z w : Mark) → pos 0 <ℤ z.n → pos 0 <ℤ w.n → side f z ≡ pos 0 → pos 0 <ℤ side f w → Every (λ e. pos 0 <ℤ side e z) hs → Common (f ∷ hs)
step_in f hs z w nz nw o h i =
    let k = nudge (λ e. side e z) (λ e. side e w) hs i in (
      mix k.0 z (pos 1) w,
      there k.0 z.n w.n k.1 nz nw,
      (
        subst (λ (v : ℤ). pos 0 <ℤ v) (sym (side-mix f k.0 z (pos 1) w)) (here k.0 (side f z) (side f w) o h),
        every_then (λ e. pos 0 <ℤ (k.0 *ℤ side e z +ℤ side e w)) (λ e. pos 0 <ℤ side e (mix k.0 z (pos 1) w)) (λ e j. subst (λ (v : ℤ). pos 0 <ℤ v) (sym (side-mix e k.0 z (pos 1) w ∙ ap (λ (v : ℤ). k.0 *ℤ side e z +ℤ v) (one-mul (side e w)))) j) hs k.2,
      ),
    )
  where
    there : (k a b : ℤ) → pos 0 <ℤ k → pos 0 <ℤ a → pos 0 <ℤ b → pos 0 <ℤ (k *ℤ a +ℤ pos 1 *ℤ b)
    there k a b h i j = let x = positive_mul k a h i in let e = one-mul b in omega (arith, linear)

    here : (k l g : ℤ) → l ≡ pos 0 → pos 0 <ℤ g → pos 0 <ℤ (k *ℤ l +ℤ pos 1 *ℤ g)
    here k l g z h = let e = ap (λ (v : ℤ). k *ℤ v) z ∙ mul-zero k in let d = one-mul g in omega (arith, linear)

-- the point of the line of f at a place
at_place : Edge → Place → Mark
at_place f p = mix p.t (along f) p.n (mark_of f.from)

at_place_side : (f s : Edge) (p : Place) → level (slope f) (height f) p s ≡ side s (at_place f p)
unfolding slope height at_place
at_place_side f s p = swap (side s (along f)) (side s (mark_of f.from)) p.t p.n ∙ sym (side-mix s p.t (along f) p.n (mark_of f.from))
  where
    swap : (a b t n : ℤ) → a *ℤ t +ℤ b *ℤ n ≡ t *ℤ a +ℤ n *ℤ b
    swap a b t n = simp ring

at_place_on : (f : Edge) (p : Place) → side f (at_place f p) ≡ pos 0
unfolding at_place
at_place_on f p = side-mix f p.t (along f) p.n (mark_of f.from) ∙ nothing p.t p.n (side f (along f)) (side f (mark_of f.from)) (side-along f) (side-from f)
  where
    nothing : (t n a b : ℤ) → a ≡ pos 0 → b ≡ pos 0 → t *ℤ a +ℤ n *ℤ b ≡ pos 0
    nothing t n a b d e = rw (d, e, mul-zero t, mul-zero n)

at_place-n : (f : Edge) (p : Place) → pos 0 <ℤ p.n → pos 0 <ℤ (at_place f p).n
unfolding at_place along
at_place-n f p h = plain p.t p.n h
  where
    plain : (t n : ℤ) → pos 0 <ℤ n → pos 0 <ℤ (t *ℤ pos 0 +ℤ n *ℤ pos 1)
    plain t n h = let e = mul-zero t in let d = mul-one n in omega (arith, linear)

abbrev pub Trio : (Edge → Type 0) → Type 0
Trio K = (e f g : Edge) → K e → K f → K g → (z : Mark) × (pos 0 <ℤ z.n) × (pos 0 <ℤ side e z) × (pos 0 <ℤ side f z) × (pos 0 <ℤ side g z)

place_of-n : (f : Edge) (z : Mark) → pos 0 <ℤ norm f → pos 0 <ℤ z.n → pos 0 <ℤ (place_of f z).n
unfolding place_of
place_of-n f z h i = positive_mul (norm f) z.n h i

pub plane_helly : (K : Edge → Type 0) → Trio K → (hs : List Edge) → Every K hs → Common hs
plane_helly K three [] ks = (record { x = pos 0; y = pos 0; n = pos 1 }, omega (arith, linear), tt)
plane_helly K three (f ∷ hs) ks' = step (plane_helly K three hs ks'.1)
  where
    pairs : (u : Common hs) → side f u.0 ≤ℤ pos 0 → Paired (slope f) (height f) (λ s. K s × (pos 0 <ℤ side s u.0))
    pairs u out s t ks kt =
        let w = three s t f ks.0 kt.0 ks'.0 in
        let z = crossing f u.0 w.0 in
        let m = norm_above f w.0 w.4 in
        let on = crossing_on f u.0 w.0 in (
          place_of f z,
          place_of-n f z m (crossing-n f u.0 w.0 w.4 out u.1 w.1),
          subst (λ (v : ℤ). pos 0 <ℤ v) (sym (level-place f s z on)) (positive_mul (norm f) (side s z) m (crossing_above f s u.0 w.0 w.4 out ks.1 w.2)),
          subst (λ (v : ℤ). pos 0 <ℤ v) (sym (level-place f t z on)) (positive_mul (norm f) (side t z) m (crossing_above f t u.0 w.0 w.4 out kt.1 w.3)),
        )

    outside : (u : Common hs) → side f u.0 ≤ℤ pos 0 → Common (f ∷ hs)
    outside u out =
        let w = three f f f ks'.0 ks'.0 ks'.0 in
        let l = line_helly (slope f) (height f) (λ s. K s × (pos 0 <ℤ side s u.0)) (pairs u out) hs (both K (λ s. pos 0 <ℤ side s u.0) (λ s. K s × (pos 0 <ℤ side s u.0)) (λ s k h. (k, h)) hs ks'.1 u.2) in
        step_in f hs (at_place f l.0) w.0 (at_place-n f l.0 l.1) w.1 (at_place_on f l.0) w.2
        (every_then (λ s. pos 0 <ℤ level (slope f) (height f) l.0 s) (λ s. pos 0 <ℤ side s (at_place f l.0)) (λ s h. subst (λ (v : ℤ). pos 0 <ℤ v) (at_place_side f s l.0) h) hs l.2)

    step : Common hs → Common (f ∷ hs)
    step u = elim (sign (side f u.0)) [ above h ↦ (u.0, u.1, (h, u.2)) | none z ↦ outside u (omega (arith, linear)) | below l ↦ outside u (omega (arith, linear)) ]
