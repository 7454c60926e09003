-- From the words of contracts to the words of the lemmas about closed lines.
use Rattle.std.proofs.Common.{◌≡◌, refl, sym, ap, ◌∙◌, subst, arith, ℕ, zero, suc, ◌+◌, ◌<◌, ◌≤◌, List, [], ◌∷◌, ◌++◌, length, get_or, map, inl, inr, ◌≢◌}
use Rattle.std.specs.List.{All, Any, AllPairs, zip}
use Rattle.std.proofs.lemmas.List.Elements.{All-head, All-tail}
use Rattle.std.proofs.lemmas.Bool.{cases_lt}
use Rattle.std.proofs.lemmas.List.{get_or-map, length-map}
use Rattle.shape_exact.specs.declared.point.Point.{Point}
use Rattle.shape_exact.specs.Shapes.{IsShape, edges, cross}
use Rattle.shape_exact.proofs.RingLaws.{ring, linear, one-mul, positive_mul}
use Rattle.shape_exact.specs.Plane.{Edge, side, links, rim, Every, Some_of, mark_of}
use Rattle.shape_exact.proofs.LineLaws.{Sign, sign, above, none, below, every_then}
use Rattle.shape_exact.proofs.HellyLaws.{norm}
use Rattle.shape_exact.proofs.MeetLaws.{Convex, Seen}
use Rattle.shape_exact.proofs.ThickLaws.{thick}
use Rattle.shape_exact.proofs.RimLaws.{length-rim, rim_inner, rim_closing}
use Rattle.shape_exact.proofs.SumLaws.{some_then}
use lib.IntN.{ℤ, pos, ◌+ℤ◌, ◌-ℤ◌, ◌*ℤ◌, neg_ℤ}
use lib.Signed.{◌<ℤ◌, ◌≤ℤ◌}

pub every_from_All : {A : Type 0} (P : A → Type 0) (xs : List A) → All P xs → Every P xs
every_from_All P [] h = tt
every_from_All P (x ∷ xs) h = (All-head P x xs h, every_from_All P xs (All-tail P x xs h))

pub some_from_Any : {A : Type 0} (P : A → Type 0) (xs : List A) → Any P xs → Some_of P xs
some_from_Any {A} P xs h = at xs h.0 h.1 h.2 h.3 h.4
  where
    at : (ys : List A) (k : ℕ) (x : A) → k < length ys → get_or ys k x ≡ x → P x → Some_of P ys
    at [] k x l e p = absurd (omega arith)
    at (y ∷ ys) zero x l e p = inl (subst P (sym e) p)
    at (y ∷ ys) (suc k) x l e p = inr (at ys k x (omega arith) e p)

-- ---- the edges, as pairs
abbrev pub pair : Edge → Point × Point
pair e = (e.from, e.to)

zip-links : (first p : Point) (qs : List Point) → zip (p ∷ qs) (qs ++ first ∷ []) ≡ map pair (links first p qs)
zip-links first p [] = refl
zip-links first p (q ∷ qs) = ap (λ (es : List (Point × Point)). (p, q) ∷ es) (zip-links first q qs)

pub edges-rim : (vs : List Point) → edges vs ≡ map pair (rim vs)
edges-rim [] = refl
edges-rim (v ∷ vs) = zip-links v v vs

pub map_every : {A B : Type 0} (f : A → B) (P : B → Type 0) (xs : List A) → Every P (map f xs) → Every (λ a. P (f a)) xs
map_every f P [] h = tt
map_every f P (x ∷ xs) h = (h.0, map_every f P xs h.1)

map_some : {A B : Type 0} (f : A → B) (P : B → Type 0) (xs : List A) → Some_of P (map f xs) → Some_of (λ a. P (f a)) xs
map_some f P [] h = h
map_some f P (x ∷ xs) (inl h) = inl h
map_some f P (x ∷ xs) (inr h) = inr (map_some f P xs h)

pub every_edge : (P : Point × Point → Type 0) (vs : List Point) → All P (edges vs) → Every (λ e. P (pair e)) (rim vs)
every_edge P vs h = map_every pair P (rim vs) (subst (λ es. Every P es) (edges-rim vs) (every_from_All P (edges vs) h))

pub some_edge : (P : Point × Point → Type 0) (vs : List Point) → Any P (edges vs) → Some_of (λ e. P (pair e)) (rim vs)
some_edge P vs h = map_some pair P (rim vs) (subst (λ es. Some_of P es) (edges-rim vs) (some_from_Any P (edges vs) h))

-- ---- what a footprint is, in those words
pub side-cross : (e : Edge) (v : Point) → side e (mark_of v) ≡ cross e.from e.to v
side-cross e v = rw (one-mul e.from.x, one-mul e.from.y)

pub convex_from : (vs : List Point) → IsShape vs → Convex vs
convex_from vs s =
    every_then (λ e. All (λ v. pos 0 ≤ℤ cross e.from e.to v) vs) (λ e. Every (λ v. pos 0 ≤ℤ side e (mark_of v)) vs)
    (λ e a. every_then (λ v. pos 0 ≤ℤ cross e.from e.to v) (λ v. pos 0 ≤ℤ side e (mark_of v))
    (λ v b. subst (λ (n : ℤ). pos 0 ≤ℤ n) (sym (side-cross e v)) b) vs (every_from_All (λ v. pos 0 ≤ℤ cross e.from e.to v) vs a))
    (rim vs) (every_edge (λ e. All (λ v. pos 0 ≤ℤ cross e.0 e.1 v) vs) vs s.convex)

-- an edge between different vertices has a length
pub norm_from : (e : Edge) → e.from ≢ e.to → pos 0 <ℤ norm e
unfolding norm
norm_from e n = by (e.to.x -ℤ e.from.x) (e.to.y -ℤ e.from.y) (sign (e.to.x -ℤ e.from.x)) (sign (e.to.y -ℤ e.from.y)) (λ x y. n (same e x y))
  where
    zero_gap : (a b : ℤ) → b -ℤ a ≡ pos 0 → a ≡ b
    zero_gap a b e = omega (arith, linear)

    same : (e : Edge) → e.to.x -ℤ e.from.x ≡ pos 0 → e.to.y -ℤ e.from.y ≡ pos 0 → e.from ≡ e.to
    same e x y = ap (λ (k : ℤ). record { x = k; y = e.from.y }) (zero_gap e.from.x e.to.x x) ∙ ap (λ (k : ℤ). record { x = e.to.x; y = k }) (zero_gap e.from.y e.to.y y)

    square : (a : ℤ) → Sign a → pos 0 ≤ℤ (a *ℤ a)
    square a (above h) = let m = positive_mul a a h h in omega (arith, linear)
    square a (none z) = subst (λ (k : ℤ). pos 0 ≤ℤ (k *ℤ k)) (sym z) (omega arith)
    square a (below h) = let m = positive_mul (neg_ℤ a) (neg_ℤ a) (omega (arith, linear)) (omega (arith, linear)) in let e : neg_ℤ a *ℤ neg_ℤ a ≡ a *ℤ a = simp ring in omega (arith, linear)

    more : (a : ℤ) → a <ℤ pos 0 → pos 0 <ℤ (a *ℤ a)
    more a h = let m = positive_mul (neg_ℤ a) (neg_ℤ a) (omega (arith, linear)) (omega (arith, linear)) in let e : neg_ℤ a *ℤ neg_ℤ a ≡ a *ℤ a = simp ring in omega (arith, linear)

    by : (a b : ℤ) → Sign a → Sign b → (a ≡ pos 0 → b ≡ pos 0 → ⊥) → pos 0 <ℤ (a *ℤ a +ℤ b *ℤ b)
    by a b (above h) t f = let m = positive_mul a a h h in let r = square b t in omega (arith, linear)
    by a b (below h) t f = let m = more a h in let r = square b t in omega (arith, linear)
    by a b (none z) (above h) f = let m = positive_mul b b h h in let r = square a (none z) in omega (arith, linear)
    by a b (none z) (below h) f = let m = more b h in let r = square a (none z) in omega (arith, linear)
    by a b (none z) (none y) f = absurd (f z y)

-- the edges of a line of distinct vertices have lengths
pub lengths : (vs : List Point) → 2 ≤ length vs → AllPairs (λ v w. v ≢ w) vs → Every (λ e. pos 0 <ℤ norm e) (rim vs)
lengths vs l d =
    every_from_All (λ e. pos 0 <ℤ norm e) (rim vs) (λ k e h.
    let n = length-rim vs in
    let o : Point = record { x = pos 0; y = pos 0 } in
    elim (cases_lt (k + 1) (length vs)) [
      | inl more ↦ subst (λ (e : Edge). pos 0 <ℤ norm e) (sym (rim_inner vs k e o more))
          (norm_from (record { from = get_or vs k o; to = get_or vs (k + 1) o }) (d k (k + 1) o (omega arith) more))
      | inr last ↦ subst (λ (e : Edge). pos 0 <ℤ norm e) (sym (rim_closing vs k e o (omega arith)))
          (norm_from (record { from = get_or vs k o; to = get_or vs 0 o }) (λ e. d 0 k o (omega arith) (omega arith) (sym e)))
    ])

-- each edge of a footprint has a vertex strictly on its inner side
pub thick_from : (vs : List Point) → IsShape vs → Seen vs vs
thick_from vs s =
    thick vs (convex_from vs s) (lengths vs (let n = s.some in omega arith) s.distinct)
    (some_then (λ e. Any (λ v. pos 0 <ℤ cross e.from e.to v) vs) (λ e. Some_of (λ v. pos 0 <ℤ side e (mark_of v)) vs)
    (λ e a. some_then (λ v. pos 0 <ℤ cross e.from e.to v) (λ v. pos 0 <ℤ side e (mark_of v))
    (λ v b. subst (λ (n : ℤ). pos 0 <ℤ n) (sym (side-cross e v)) b) vs (some_from_Any (λ v. pos 0 <ℤ cross e.from e.to v) vs a))
    (rim vs) (some_edge (λ e. Any (λ v. pos 0 <ℤ cross e.0 e.1 v) vs) vs s.wide))

-- ---- an edge by its number
edge_at : (vs : List Point) (k : ℕ) (d : Point × Point) → k < length vs → get_or (edges vs) k d ≡ pair (get_or (rim vs) k (record { from = d.0; to = d.1 }))
edge_at vs k d l =
    ap (λ es. get_or es k d) (edges-rim vs) ∙ get_or-map pair (rim vs) k (record { from = d.0; to = d.1 }) d (omega (arith, length-rim vs))

both_ends : (a b c d : Point) → a ≡ c → b ≡ d → ◌≡◌ {A = Point × Point} (a, b) (c, d)
both_ends a b c d e f = ap (λ (v : Point). (v, b)) e ∙ ap (λ (v : Point). (c, v)) f

-- edge k goes from vertex k to the next
pub edge_inner : (vs : List Point) (k : ℕ) (d : Point × Point) (o : Point) → k + 1 < length vs → get_or (edges vs) k d ≡ (get_or vs k d.0, get_or vs (k + 1) o)
edge_inner vs k d o l =
    let e : Edge = record { from = d.0; to = d.1 } in
    edge_at vs k d (omega arith)
    ∙ both_ends (get_or (rim vs) k e).from (get_or (rim vs) k e).to (get_or vs k d.0) (get_or vs (k + 1) o)
    (ap (λ (f : Edge). f.from) (rim_inner vs k e d.0 l)) (ap (λ (f : Edge). f.to) (rim_inner vs k e o l))

-- and the last to the first
pub edge_closing : (vs : List Point) (k : ℕ) (d : Point × Point) (o : Point) → k + 1 ≡ length vs → get_or (edges vs) k d ≡ (get_or vs k d.0, get_or vs 0 o)
edge_closing vs k d o l =
    let e : Edge = record { from = d.0; to = d.1 } in
    edge_at vs k d (omega arith)
    ∙ both_ends (get_or (rim vs) k e).from (get_or (rim vs) k e).to (get_or vs k d.0) (get_or vs 0 o)
    (ap (λ (f : Edge). f.from) (rim_closing vs k e d.0 l)) (ap (λ (f : Edge). f.to) (rim_closing vs k e o l))

pub length-edges : (vs : List Point) → length (edges vs) ≡ length vs
length-edges vs = ap length (edges-rim vs) ∙ length-map (rim vs) pair ∙ length-rim vs
