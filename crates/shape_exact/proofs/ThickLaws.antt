-- A convex line with a vertex that is off the line of some edge has one off the line of each edge.
use Rattle.std.proofs.Common.{◌≡◌, ◌∙◌, arith, List, [], ◌∷◌, ◌⊎◌, inl, inr}
use Rattle.shape_exact.proofs.RingLaws.{ring, linear, mul-zero, positive_mul}
use lib.IntN.{ℤ, pos, ◌+ℤ◌, ◌-ℤ◌, ◌*ℤ◌}
use lib.Signed.{◌<ℤ◌, ◌≤ℤ◌}
use Rattle.shape_exact.specs.declared.point.Point.{Point}
use Rattle.shape_exact.specs.Plane.{Edge, side, Every, Some_of, mark_of, rim, links}
use Rattle.shape_exact.proofs.LineLaws.{Sign, sign, above, none, below, both}
use Rattle.shape_exact.proofs.HellyLaws.{norm}
use Rattle.shape_exact.proofs.MeetLaws.{Convex, Seen}

look : (e : Edge) (vs : List Point) → Every (λ v. pos 0 ≤ℤ side e (mark_of v)) vs → Some_of (λ v. pos 0 <ℤ side e (mark_of v)) vs ⊎ Every (λ v. side e (mark_of v) ≡ pos 0) vs
look e [] h = inr tt
look e (v ∷ vs) h = by (sign (side e (mark_of v))) (look e vs h.1)
  where
    by : Sign (side e (mark_of v)) → Some_of (λ v. pos 0 <ℤ side e (mark_of v)) vs ⊎ Every (λ v. side e (mark_of v) ≡ pos 0) vs → Some_of (λ v. pos 0 <ℤ side e (mark_of v)) (v ∷ vs) ⊎ Every (λ v. side e (mark_of v) ≡ pos 0) (v ∷ vs)
    by (above u) r = inl (inl u)
    by (none z) (inl s) = inl (inr s)
    by (none z) (inr o) = inr (z, o)
    by (below l) r = absurd (not_both (side e (mark_of v)) h.0 l)
      where
        not_both : (a : ℤ) → pos 0 ≤ℤ a → a <ℤ pos 0 → ⊥
        not_both a h l = omega (arith, linear)

ends_links : (P : Point → Type 0) (first p : Point) (qs : List Point) → P first → P p → Every P qs → Every (λ e. P e.from × P e.to) (links first p qs)
ends_links P first p [] f h i = ((h, f), tt)
ends_links P first p (q ∷ qs) f h i = ((h, i.0), ends_links P first q qs f i.0 i.1)

pub ends : (P : Point → Type 0) (ps : List Point) → Every P ps → Every (λ e. P e.from × P e.to) (rim ps)
ends P [] h = tt
ends P (p ∷ ps) h = ends_links P p p ps h.0 h.0 h.1

pub core : (dx dy ux uy wx wy : ℤ) → (dx *ℤ dx +ℤ dy *ℤ dy) *ℤ (ux *ℤ wy -ℤ uy *ℤ wx) ≡ (dx *ℤ ux +ℤ dy *ℤ uy) *ℤ (dx *ℤ wy -ℤ dy *ℤ wx) -ℤ (dx *ℤ wx +ℤ dy *ℤ wy) *ℤ (dx *ℤ uy -ℤ dy *ℤ ux)
core dx dy ux uy wx wy = simp ring (omega (arith, linear))

side_less : (dx dy px py ax ay bx by : ℤ) → dx *ℤ (by -ℤ pos 1 *ℤ ay) -ℤ dy *ℤ (bx -ℤ pos 1 *ℤ ax) ≡ (dx *ℤ (by -ℤ pos 1 *ℤ py) -ℤ dy *ℤ (bx -ℤ pos 1 *ℤ px)) -ℤ (dx *ℤ (ay -ℤ pos 1 *ℤ py) -ℤ dy *ℤ (ax -ℤ pos 1 *ℤ px))
side_less dx dy px py ax ay bx by = simp ring (omega (arith, linear))

side_along : (dx dy px py ax ay bx by : ℤ) → dx *ℤ (by -ℤ ay) -ℤ dy *ℤ (bx -ℤ ax) ≡ (dx *ℤ (by -ℤ pos 1 *ℤ py) -ℤ dy *ℤ (bx -ℤ pos 1 *ℤ px)) -ℤ (dx *ℤ (ay -ℤ pos 1 *ℤ py) -ℤ dy *ℤ (ax -ℤ pos 1 *ℤ px))
side_along dx dy px py ax ay bx by = simp ring (omega (arith, linear))

-- three points on the line of f are on one line
on_line : (f e : Edge) (v : Point) → side f (mark_of e.from) ≡ pos 0 → side f (mark_of e.to) ≡ pos 0 → side f (mark_of v) ≡ pos 0 → norm f *ℤ side e (mark_of v) ≡ pos 0
unfolding norm
on_line f e v a b c =
    let dx = f.to.x -ℤ f.from.x in
    let dy = f.to.y -ℤ f.from.y in
    core dx dy (e.to.x -ℤ e.from.x) (e.to.y -ℤ e.from.y) (v.x -ℤ pos 1 *ℤ e.from.x) (v.y -ℤ pos 1 *ℤ e.from.y)
    ∙ plain _ _ _ _ (side_less dx dy f.from.x f.from.y e.from.x e.from.y v.x v.y ∙ gone (side f (mark_of v)) (side f (mark_of e.from)) c a)
    (side_along dx dy f.from.x f.from.y e.from.x e.from.y e.to.x e.to.y ∙ gone (side f (mark_of e.to)) (side f (mark_of e.from)) b a)
  where
    gone : (a b : ℤ) → a ≡ pos 0 → b ≡ pos 0 → a -ℤ b ≡ pos 0
    gone a b x y = omega (arith, linear)

    plain : (p q a b : ℤ) → a ≡ pos 0 → b ≡ pos 0 → p *ℤ a -ℤ q *ℤ b ≡ pos 0
    plain p q a b x y = rw (x, y, mul-zero p, mul-zero q)

clash : (f e : Edge) (vs : List Point) → pos 0 <ℤ norm f → side f (mark_of e.from) ≡ pos 0 → side f (mark_of e.to) ≡ pos 0 → Every (λ v. side f (mark_of v) ≡ pos 0) vs → Some_of (λ v. pos 0 <ℤ side e (mark_of v)) vs → ⊥
clash f e [] n a b o s = absurd s
clash f e (v ∷ vs) n a b o (inl s) = zero_above _ (on_line f e v a b o.0) (positive_mul (norm f) (side e (mark_of v)) n s)
  where
    zero_above : (a : ℤ) → a ≡ pos 0 → pos 0 <ℤ a → ⊥
    zero_above a e h = omega (arith, linear)
clash f e (v ∷ vs) n a b o (inr s) = clash f e vs n a b o.1 s

clashes : (f : Edge) (vs : List Point) (es : List Edge) → pos 0 <ℤ norm f → Every (λ v. side f (mark_of v) ≡ pos 0) vs → Every (λ e. (side f (mark_of e.from) ≡ pos 0) × (side f (mark_of e.to) ≡ pos 0)) es → Some_of (λ e. Some_of (λ v. pos 0 <ℤ side e (mark_of v)) vs) es → ⊥
clashes f vs [] n o t s = absurd s
clashes f vs (e ∷ es) n o t (inl s) = clash f e vs n t.0.0 t.0.1 o s
clashes f vs (e ∷ es) n o t (inr s) = clashes f vs es n o t.1 s

pub thick : (ps : List Point) → Convex ps → Every (λ e. pos 0 <ℤ norm e) (rim ps) → Some_of (λ e. Some_of (λ v. pos 0 <ℤ side e (mark_of v)) ps) (rim ps) → Seen ps ps
thick ps c ns s = both (λ e. Every (λ v. pos 0 ≤ℤ side e (mark_of v)) ps) (λ e. pos 0 <ℤ norm e) (λ e. Some_of (λ v. pos 0 <ℤ side e (mark_of v)) ps) (λ f h n. pick f n (look f ps h)) (rim ps) c ns
  where
    pick : (f : Edge) → pos 0 <ℤ norm f → Some_of (λ v. pos 0 <ℤ side f (mark_of v)) ps ⊎ Every (λ v. side f (mark_of v) ≡ pos 0) ps → Some_of (λ v. pos 0 <ℤ side f (mark_of v)) ps
    pick f n (inl s) = s
    pick f n (inr o) = absurd (clashes f ps (rim ps) n o (ends (λ v. side f (mark_of v) ≡ pos 0) ps o) s)
