-- Two closed convex lines, of which no edge separates the other, have a common point strictly inside.
use Rattle.std.proofs.Common.{◌≡◌, sym, ◌∙◌, subst, arith, List, [], ◌∷◌, ◌++◌, ◌⊎◌, inl, inr}
use Rattle.shape_exact.proofs.RingLaws.{ring, linear, mul-one, one-mul, not_negative_mul}
use lib.IntN.{ℤ, pos, ◌+ℤ◌, ◌-ℤ◌, ◌*ℤ◌}
use lib.Signed.{◌<ℤ◌, ◌≤ℤ◌}
use Rattle.shape_exact.specs.declared.point.Point.{Point}
use Rattle.shape_exact.specs.Plane.{Edge, Mark, side, Every, Some_of, mark_of, rim, Inside}
use Rattle.shape_exact.proofs.LinearLaws.{mix}
use Rattle.shape_exact.proofs.NudgeLaws.{nudge}
use Rattle.shape_exact.proofs.LineLaws.{both, every_then}
use Rattle.shape_exact.proofs.HellyLaws.{side-mix, Trio, plane_helly}

-- no vertex is on the outer side of an edge
abbrev pub Convex : List Point → Type 0
Convex ps = Every (λ e. Every (λ v. pos 0 ≤ℤ side e (mark_of v)) ps) (rim ps)

-- each edge of ps has a vertex of qs strictly on its inner side
abbrev pub Seen : List Point → List Point → Type 0
Seen ps qs = Every (λ e. Some_of (λ v. pos 0 <ℤ side e (mark_of v)) qs) (rim ps)

every_swap : {A B : Type 0} (R : A → B → Type 0) (xs : List A) (ys : List B) → Every (λ x. Every (R x) ys) xs → Every (λ y. Every (λ x. R x y) xs) ys
every_swap R [] ys h = always ys
  where
    always : {B : Type 0} (ys : List B) → Every (λ (y : B). Unit {0}) ys
    always [] = tt
    always (y ∷ ys) = (tt, always ys)
every_swap R (x ∷ xs) ys h = both (R x) (λ y. Every (λ z. R z y) xs) (λ y. Every (λ z. R z y) (x ∷ xs)) (λ y a b. (a, b)) ys h.0 (every_swap R xs ys h.1)

-- the vertices added up
pub total : List Point → Mark
total [] = record { x = pos 0; y = pos 0; n = pos 0 }
total (p ∷ ps) = mix (pos 1) (mark_of p) (pos 1) (total ps)

total_step : (e : Edge) (p : Point) (ps : List Point) → side e (total (p ∷ ps)) ≡ side e (mark_of p) +ℤ side e (total ps)
unfolding total
total_step e p ps = side-mix e (pos 1) (mark_of p) (pos 1) (total ps) ∙ once (side e (mark_of p)) (side e (total ps))
  where
    once : (a b : ℤ) → pos 1 *ℤ a +ℤ pos 1 *ℤ b ≡ a +ℤ b
    once a b = rw (one-mul a, one-mul b)

total_none : (e : Edge) → side e (total []) ≡ pos 0
unfolding total
total_none e = plain (e.to.x -ℤ e.from.x) (e.to.y -ℤ e.from.y) e.from.x e.from.y
  where
    plain : (dx dy ax ay : ℤ) → dx *ℤ (pos 0 -ℤ pos 0 *ℤ ay) -ℤ dy *ℤ (pos 0 -ℤ pos 0 *ℤ ax) ≡ pos 0
    plain dx dy ax ay = simp ring (omega (arith, linear))

total_weak : (e : Edge) (ps : List Point) → Every (λ v. pos 0 ≤ℤ side e (mark_of v)) ps → pos 0 ≤ℤ side e (total ps)
total_weak e [] h = plain (side e (total [])) (total_none e)
  where
    plain : (a : ℤ) → a ≡ pos 0 → pos 0 ≤ℤ a
    plain a e = omega (arith, linear)
total_weak e (p ∷ ps) h = plain (side e (mark_of p)) (side e (total ps)) _ (total_step e p ps) h.0 (total_weak e ps h.1)
  where
    plain : (a b c : ℤ) → c ≡ a +ℤ b → pos 0 ≤ℤ a → pos 0 ≤ℤ b → pos 0 ≤ℤ c
    plain a b c e h i = omega (arith, linear)

total_above : (e : Edge) (ps : List Point) → Every (λ v. pos 0 ≤ℤ side e (mark_of v)) ps → Some_of (λ v. pos 0 <ℤ side e (mark_of v)) ps → pos 0 <ℤ side e (total ps)
total_above e [] h s = absurd s
total_above e (p ∷ ps) h (inl s) = plain (side e (mark_of p)) (side e (total ps)) _ (total_step e p ps) s (total_weak e ps h.1)
  where
    plain : (a b c : ℤ) → c ≡ a +ℤ b → pos 0 <ℤ a → pos 0 ≤ℤ b → pos 0 <ℤ c
    plain a b c e h i = omega (arith, linear)
total_above e (p ∷ ps) h (inr s) = plain (side e (mark_of p)) (side e (total ps)) _ (total_step e p ps) h.0 (total_above e ps h.1 s)
  where
    plain : (a b c : ℤ) → c ≡ a +ℤ b → pos 0 ≤ℤ a → pos 0 <ℤ b → pos 0 <ℤ c
    plain a b c e h i = omega (arith, linear)

total-n : (ps : List Point) → pos 0 ≤ℤ (total ps).n
unfolding total
total-n [] = omega (arith, linear)
total-n (p ∷ ps) = plain (total ps).n (total-n ps)
  where
    plain : (n : ℤ) → pos 0 ≤ℤ n → pos 0 ≤ℤ (pos 1 *ℤ pos 1 +ℤ pos 1 *ℤ n)
    plain n h = let e = one-mul n in omega (arith, linear)

total_cons-n : (p : Point) (ps : List Point) → pos 0 <ℤ (total (p ∷ ps)).n
unfolding total
total_cons-n p ps = plain (total ps).n (total-n ps)
  where
    plain : (n : ℤ) → pos 0 ≤ℤ n → pos 0 <ℤ (pos 1 *ℤ pos 1 +ℤ pos 1 *ℤ n)
    plain n h = let e = one-mul n in omega (arith, linear)

-- a convex line each of whose edges sees one of its vertices has a point strictly inside
pub centre : (p : Point) (ps : List Point) → Convex (p ∷ ps) → Seen (p ∷ ps) (p ∷ ps) → (z : Mark) × Inside z (p ∷ ps)
centre p ps c s = (total (p ∷ ps), (total_cons-n p ps, both (λ e. Every (λ v. pos 0 ≤ℤ side e (mark_of v)) (p ∷ ps)) (λ e. Some_of (λ v. pos 0 <ℤ side e (mark_of v)) (p ∷ ps)) (λ e. pos 0 <ℤ side e (total (p ∷ ps))) (λ e h i. total_above e (p ∷ ps) h i) (rim (p ∷ ps)) c s))

-- with a vertex on the inner side of e, ps has a point strictly inside that is on the inner side of e
near : (e : Edge) (ps : List Point) (z : Mark) (v : Point) → Inside z ps → Every (λ f. pos 0 ≤ℤ side f (mark_of v)) (rim ps) → pos 0 <ℤ side e (mark_of v) → (y : Mark) × Inside y ps × (pos 0 <ℤ side e y)
near e ps z v i w s =
    let k = nudge (λ f. side f (mark_of v)) (λ f. side f z) (e ∷ []) (s, tt) in (
      mix k.0 (mark_of v) (pos 1) z,
      (there k.0 z.n k.1 i.0, both (λ f. pos 0 ≤ℤ side f (mark_of v)) (λ f. pos 0 <ℤ side f z) (λ f. pos 0 <ℤ side f (mix k.0 (mark_of v) (pos 1) z)) (λ f a b. subst (λ (u : ℤ). pos 0 <ℤ u) (sym (side-mix f k.0 (mark_of v) (pos 1) z)) (inside k.0 (side f (mark_of v)) (side f z) k.1 a b)) (rim ps) w i.1),
      subst (λ (u : ℤ). pos 0 <ℤ u) (sym (side-mix e k.0 (mark_of v) (pos 1) z)) (here k.0 (side e (mark_of v)) (side e z) k.2.0),
    )
  where
    there : (k n : ℤ) → pos 0 <ℤ k → pos 0 <ℤ n → pos 0 <ℤ (k *ℤ pos 1 +ℤ pos 1 *ℤ n)
    there k n h i = let e = mul-one k in let d = one-mul n in omega (arith, linear)

    inside : (k a b : ℤ) → pos 0 <ℤ k → pos 0 ≤ℤ a → pos 0 <ℤ b → pos 0 <ℤ (k *ℤ a +ℤ pos 1 *ℤ b)
    inside k a b h i j = let x = not_negative_mul k a (omega (arith, linear)) i in let d = one-mul b in omega (arith, linear)

    here : (k a b : ℤ) → pos 0 <ℤ (k *ℤ a +ℤ b) → pos 0 <ℤ (k *ℤ a +ℤ pos 1 *ℤ b)
    here k a b h = let d = one-mul b in omega (arith, linear)

near_some : (e : Edge) (ps vs : List Point) (z : Mark) → Inside z ps → Every (λ v. Every (λ f. pos 0 ≤ℤ side f (mark_of v)) (rim ps)) vs → Some_of (λ v. pos 0 <ℤ side e (mark_of v)) vs → (y : Mark) × Inside y ps × (pos 0 <ℤ side e y)
near_some e ps [] z i w s = absurd s
near_some e ps (v ∷ vs) z i w (inl s) = near e ps z v i w.0 s
near_some e ps (v ∷ vs) z i w (inr s) = near_some e ps vs z i w.1 s

-- an edge that holds the inside of ps and some point of the inside of qs
abbrev Holds : List Point → List Point → Edge → Type 0
Holds ps qs e = ((z : Mark) → Inside z ps → pos 0 <ℤ side e z) × ((z : Mark) × Inside z qs × (pos 0 <ℤ side e z))

trio : (ps qs : List Point) (y z : Mark) → Inside y ps → Inside z qs → Trio (λ e. Holds ps qs e ⊎ Holds qs ps e)
trio ps qs y z iy iz e f g (inl a) (inl b) (inl c) = (y, iy.0, a.0 y iy, b.0 y iy, c.0 y iy)
trio ps qs y z iy iz e f g (inl a) (inl b) (inr c) = let w = c.1 in (w.0, w.1.0, a.0 w.0 w.1, b.0 w.0 w.1, w.2)
trio ps qs y z iy iz e f g (inl a) (inr b) (inl c) = let w = b.1 in (w.0, w.1.0, a.0 w.0 w.1, w.2, c.0 w.0 w.1)
trio ps qs y z iy iz e f g (inl a) (inr b) (inr c) = let w = a.1 in (w.0, w.1.0, w.2, b.0 w.0 w.1, c.0 w.0 w.1)
trio ps qs y z iy iz e f g (inr a) (inl b) (inl c) = let w = a.1 in (w.0, w.1.0, w.2, b.0 w.0 w.1, c.0 w.0 w.1)
trio ps qs y z iy iz e f g (inr a) (inl b) (inr c) = let w = b.1 in (w.0, w.1.0, a.0 w.0 w.1, w.2, c.0 w.0 w.1)
trio ps qs y z iy iz e f g (inr a) (inr b) (inl c) = let w = c.1 in (w.0, w.1.0, a.0 w.0 w.1, b.0 w.0 w.1, w.2)
trio ps qs y z iy iz e f g (inr a) (inr b) (inr c) = (z, iz.0, a.0 z iz, b.0 z iz, c.0 z iz)

pub every_append : {A : Type 0} (P : A → Type 0) (xs ys : List A) → Every P xs → Every P ys → Every P (xs ++ ys)
every_append P [] ys h i = i
every_append P (x ∷ xs) ys h i = (h.0, every_append P xs ys h.1 i)

every_left : {A : Type 0} (P : A → Type 0) (xs ys : List A) → Every P (xs ++ ys) → Every P xs
every_left P [] ys h = tt
every_left P (x ∷ xs) ys h = (h.0, every_left P xs ys h.1)

every_right : {A : Type 0} (P : A → Type 0) (xs ys : List A) → Every P (xs ++ ys) → Every P ys
every_right P [] ys h = h
every_right P (x ∷ xs) ys h = every_right P xs ys h.1

-- each edge is above 0 where all are
own : (es : List Edge) → Every (λ e. (z : Mark) → Every (λ d. pos 0 <ℤ side d z) es → pos 0 <ℤ side e z) es
own [] = tt
own (e ∷ es) = (λ z h. h.0, every_then (λ e. (z : Mark) → Every (λ d. pos 0 <ℤ side d z) es → pos 0 <ℤ side e z) (λ d. (z : Mark) → Every (λ d. pos 0 <ℤ side d z) (e ∷ es) → pos 0 <ℤ side d z) (λ d g z h. g z h.1) es (own es))

holds : (ps qs : List Point) (z : Mark) → Inside z qs → Convex qs → Seen ps qs → Every (Holds ps qs) (rim ps)
holds ps qs z i c s = both (λ e. (z : Mark) → Every (λ d. pos 0 <ℤ side d z) (rim ps) → pos 0 <ℤ side e z) (λ e. Some_of (λ v. pos 0 <ℤ side e (mark_of v)) qs) (Holds ps qs)
    (λ e o m. ((λ y j. o y j.1), near_some e qs qs z i (every_swap (λ e v. pos 0 ≤ℤ side e (mark_of v)) (rim qs) qs c) m)) (rim ps) (own (rim ps)) s

pub meet : (p : Point) (ps : List Point) (q : Point) (qs : List Point) → Convex (p ∷ ps) → Convex (q ∷ qs) → Seen (p ∷ ps) (p ∷ ps) → Seen (q ∷ qs) (q ∷ qs) → Seen (p ∷ ps) (q ∷ qs) → Seen (q ∷ qs) (p ∷ ps) → (z : Mark) × Inside z (p ∷ ps) × Inside z (q ∷ qs)
meet p ps q qs cp cq sp sq spq sqp =
    let y = centre p ps cp sp in
    let z = centre q qs cq sq in
    let P = p ∷ ps in
    let Q = q ∷ qs in
    let K : Edge → Type 0 = λ e. Holds P Q e ⊎ Holds Q P e in
    let a = every_then (Holds P Q) K (λ e h. inl h) (rim P) (holds P Q z.0 z.1 cq spq) in
    let b = every_then (Holds Q P) K (λ e h. inr h) (rim Q) (holds Q P y.0 y.1 cp sqp) in
    let all = plane_helly K (trio P Q y.0 z.0 y.1 z.1) (rim P ++ rim Q) (every_append K (rim P) (rim Q) a b) in
    (all.0, (all.1, every_left (λ e. pos 0 <ℤ side e all.0) (rim P) (rim Q) all.2), (all.1, every_right (λ e. pos 0 <ℤ side e all.0) (rim P) (rim Q) all.2))
