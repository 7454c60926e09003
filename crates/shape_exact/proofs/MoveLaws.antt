-- Shifts and quarter turns leave every side as it is.
use Rattle.std.proofs.Common.{◌≡◌, refl, sym, ap, subst, arith, List, [], ◌∷◌, inl, inr, map}
use Rattle.shape_exact.proofs.RingLaws.{ring, linear}
use lib.IntN.{ℤ, pos, ◌+ℤ◌, ◌-ℤ◌, ◌*ℤ◌, neg_ℤ}
use lib.Signed.{◌<ℤ◌, ◌≤ℤ◌}
use Rattle.shape_exact.specs.declared.point.Point.{Point}
use Rattle.shape_exact.specs.Plane.{Edge, Mark, side, Every, Some_of, mark_of, rim, links, Inside}
use Rattle.shape_exact.proofs.LineLaws.{every_then}
use Rattle.shape_exact.proofs.MeetLaws.{Convex, Seen}
use Rattle.shape_exact.specs.Sums.{shift, shift_edge}
use Rattle.shape_exact.proofs.SumLaws.{rim-shift, some_then, every_map}

abbrev pub quarter : Point → Point
quarter p = record { x = neg_ℤ p.y; y = p.x }

abbrev pub quarter_edge : Edge → Edge
quarter_edge e = record { from = quarter e.from; to = quarter e.to }

abbrev pub quarter_mark : Mark → Mark
quarter_mark z = record { x = neg_ℤ z.y; y = z.x; n = z.n }

apart_by_shift : (a b x : ℤ) → (b +ℤ x) -ℤ (a +ℤ x) ≡ b -ℤ a
apart_by_shift a b x = omega (arith, linear)

turned_at : (ax ay bx by x y n : ℤ) → (neg_ℤ by -ℤ neg_ℤ ay) *ℤ (x -ℤ n *ℤ ax) -ℤ (bx -ℤ ax) *ℤ (neg_ℤ y -ℤ n *ℤ neg_ℤ ay) ≡ (bx -ℤ ax) *ℤ (y -ℤ n *ℤ ay) -ℤ (by -ℤ ay) *ℤ (x -ℤ n *ℤ ax)
turned_at ax ay bx by x y n = simp ring (omega (arith, linear))

pub side_quarter : (e : Edge) (z : Mark) → side (quarter_edge e) (quarter_mark z) ≡ side e z
side_quarter e z = turned_at e.from.x e.from.y e.to.x e.to.y z.x z.y z.n

pub rim-quarter : (ps : List Point) → rim (map quarter ps) ≡ map quarter_edge (rim ps)
rim-quarter [] = refl
rim-quarter (p ∷ ps) = rest p p ps
  where
    rest : (first p : Point) (qs : List Point) → links (quarter first) (quarter p) (map quarter qs) ≡ map quarter_edge (links first p qs)
    rest first p [] = refl
    rest first p (q ∷ qs) = ap (λ (es : List Edge). (record { from = quarter p; to = quarter q }) ∷ es) (rest first q qs)

pub inside_quarter : (z : Mark) (ps : List Point) → Inside z ps → Inside (quarter_mark z) (map quarter ps)
inside_quarter z ps i = (i.0, subst (λ es. Every (λ e. pos 0 <ℤ side e (quarter_mark z)) es) (sym (rim-quarter ps)) (every_map quarter_edge (λ e. pos 0 <ℤ side e (quarter_mark z)) (rim ps) (every_then (λ e. pos 0 <ℤ side e z) (λ e. pos 0 <ℤ side (quarter_edge e) (quarter_mark z)) (λ e h. subst (λ (k : ℤ). pos 0 <ℤ k) (sym (side_quarter e z)) h) (rim ps) i.1)))

once_by_shift : (v a x : ℤ) → (v +ℤ x) -ℤ pos 1 *ℤ (a +ℤ x) ≡ v -ℤ pos 1 *ℤ a
once_by_shift v a x = simp ring (omega (arith, linear))

-- a vertex of the shifted shape, at an edge of the shifted shape
pub vertex_shifted : (w : Point) (e : Edge) (v : Point) → side (shift_edge w e) (mark_of (shift w v)) ≡ side e (mark_of v)
vertex_shifted w e v = simp (apart_by_shift, once_by_shift)

pub convex_shifted : (w : Point) (ps : List Point) → Convex ps → Convex (map (shift w) ps)
convex_shifted w ps c = subst (λ es. Every (λ e. Every (λ v. pos 0 ≤ℤ side e (mark_of v)) (map (shift w) ps)) es) (sym (rim-shift w ps)) (every_map (shift_edge w) (λ e. Every (λ v. pos 0 ≤ℤ side e (mark_of v)) (map (shift w) ps)) (rim ps)
    (every_then (λ e. Every (λ v. pos 0 ≤ℤ side e (mark_of v)) ps) (λ e. Every (λ v. pos 0 ≤ℤ side (shift_edge w e) (mark_of v)) (map (shift w) ps))
    (λ e h. every_map (shift w) (λ v. pos 0 ≤ℤ side (shift_edge w e) (mark_of v)) ps (every_then (λ v. pos 0 ≤ℤ side e (mark_of v)) (λ v. pos 0 ≤ℤ side (shift_edge w e) (mark_of (shift w v))) (λ v i. subst (λ (k : ℤ). pos 0 ≤ℤ k) (sym (vertex_shifted w e v)) i) ps h)) (rim ps) c))

pub some_map : {A B : Type 0} (f : A → B) (P : B → Type 0) (xs : List A) → Some_of (λ a. P (f a)) xs → Some_of P (map f xs)
some_map f P [] h = h
some_map f P (x ∷ xs) (inl h) = inl h
some_map f P (x ∷ xs) (inr h) = inr (some_map f P xs h)

pub seen_shifted : (w : Point) (ps qs : List Point) → Seen ps qs → Seen (map (shift w) ps) (map (shift w) qs)
seen_shifted w ps qs c = subst (λ es. Every (λ e. Some_of (λ v. pos 0 <ℤ side e (mark_of v)) (map (shift w) qs)) es) (sym (rim-shift w ps)) (every_map (shift_edge w) (λ e. Some_of (λ v. pos 0 <ℤ side e (mark_of v)) (map (shift w) qs)) (rim ps)
    (every_then (λ e. Some_of (λ v. pos 0 <ℤ side e (mark_of v)) qs) (λ e. Some_of (λ v. pos 0 <ℤ side (shift_edge w e) (mark_of v)) (map (shift w) qs))
    (λ e h. some_map (shift w) (λ v. pos 0 <ℤ side (shift_edge w e) (mark_of v)) qs (some_then (λ v. pos 0 <ℤ side e (mark_of v)) (λ v. pos 0 <ℤ side (shift_edge w e) (mark_of (shift w v))) (λ v i. subst (λ (k : ℤ). pos 0 <ℤ k) (sym (vertex_shifted w e v)) i) qs h)) (rim ps) c))
