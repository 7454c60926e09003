-- Shapes at places: an edge that separates them sets them apart, and shapes that no edge separates have a spot in common.
use Rattle.std.proofs.Common.{◌≡◌, refl, sym, ap, ◌∙◌, subst, arith, ◌<◌, ◌≤◌, List, [], ◌∷◌, length, map, inl, inr, Bool, true}
use Rattle.std.specs.Prelude.{◌&&◌, IsTrue, int_lt}
use Rattle.std.specs.List.{All, Any, list_all}
use Rattle.std.proofs.lemmas.Int.{ints}
use Rattle.common_lists.proofs.ListLaws.{both_true}
use Rattle.shape_exact.specs.declared.point.Point.{Point}
use Rattle.shape_exact.specs.Shapes.{Spot, IsShape, AreApart, edges, cross, side_of, is_inside}
use Rattle.shape_exact.specs.Cells.{moved_spot}
use Rattle.shape_exact.specs.Separation.{HasSeparatingEdge, EachEdgeSees, moved, way}
use Rattle.shape_exact.proofs.RingLaws.{ring, linear}
use Rattle.shape_exact.specs.Plane.{Mark, Edge, side, rim, Every, Some_of, mark_of, Inside}
use Rattle.shape_exact.proofs.LineLaws.{every_then}
use Rattle.shape_exact.proofs.LoopLaws.{separated}
use Rattle.shape_exact.proofs.MeetLaws.{Seen, meet}
use Rattle.shape_exact.specs.Sums.{shift, shift_edge}
use Rattle.shape_exact.proofs.SumLaws.{rim-shift, some_then, every_map}
use Rattle.shape_exact.proofs.MoveLaws.{convex_shifted, seen_shifted, some_map}
use Rattle.shape_exact.proofs.CellLaws.{list_all-agree}
use Rattle.shape_exact.proofs.BridgeLaws.{pair, edges-rim, every_edge, some_edge, every_from_All, some_from_Any, map_every, convex_from, thick_from}
use lib.IntN.{ℤ, pos, negsuc, ◌+ℤ◌, ◌-ℤ◌, ◌*ℤ◌}
use lib.Signed.{◌<ℤ◌, ◌≤ℤ◌}

-- ---- a spot inside a shape at a place, in the words of the lemmas
abbrev pub mark : Spot → Mark
mark s = record { x = s.x; y = s.y; n = pos s.n }

same_direction : (a b x : ℤ) → b -ℤ a ≡ (b +ℤ x) -ℤ (a +ℤ x)
same_direction a b x = omega (arith, linear)

-- the side of an edge at a place is the side of the edge moved there
pub side-placed : (e : Edge) (at : Point) (s : Spot) → side_of e.from e.to at s ≡ side (shift_edge at e) (mark s)
side-placed e at s =
    ap (λ (d : ℤ). d *ℤ (s.y -ℤ pos s.n *ℤ (e.from.y +ℤ at.y)) -ℤ (e.to.y -ℤ e.from.y) *ℤ (s.x -ℤ pos s.n *ℤ (e.from.x +ℤ at.x))) (same_direction e.from.x e.to.x at.x)
    ∙ ap (λ (d : ℤ). ((e.to.x +ℤ at.x) -ℤ (e.from.x +ℤ at.x)) *ℤ (s.y -ℤ pos s.n *ℤ (e.from.y +ℤ at.y)) -ℤ d *ℤ (s.x -ℤ pos s.n *ℤ (e.from.x +ℤ at.x))) (same_direction e.from.y e.to.y at.y)

pub above_from : (a : ℤ) → int_lt (pos 0) a ≡ true → pos 0 <ℤ a
above_from a h = omega (arith, ints)

pub above_to : (a : ℤ) → pos 0 <ℤ a → int_lt (pos 0) a ≡ true
above_to a h = grind (arith, ints)

every_true : {A : Type 0} (p : A → Bool) (xs : List A) → list_all p xs ≡ true → Every (λ x. p x ≡ true) xs
every_true p [] h = tt
every_true p (x ∷ xs) h = (let b = both_true (p x) (list_all p xs) h in (b.0, every_true p xs b.1))

true_every : {A : Type 0} (p : A → Bool) (xs : List A) → Every (λ x. p x ≡ true) xs → list_all p xs ≡ true
true_every p [] h = refl
true_every p (x ∷ xs) h = ap (λ b. b && list_all p xs) h.0 ∙ true_every p xs h.1

-- strictly inside a shape at a place is strictly inside the moved line
pub inside_from : (vs : List Point) (at : Point) (s : Spot) → 0 < s.n → IsTrue (is_inside vs at s) → Inside (mark s) (map (shift at) vs)
inside_from vs at s n h =
    let es = every_true (λ e. int_lt (pos 0) (side_of e.0 e.1 at s)) (edges vs) h in
    let rs = map_every pair (λ e. int_lt (pos 0) (side_of e.0 e.1 at s) ≡ true) (rim vs) (subst (λ es. Every (λ e. int_lt (pos 0) (side_of e.0 e.1 at s) ≡ true) es) (edges-rim vs) es) in (
      omega (arith, ints),
      subst (λ es. Every (λ e. pos 0 <ℤ side e (mark s)) es) (sym (rim-shift at vs))
          (every_map (shift_edge at) (λ e. pos 0 <ℤ side e (mark s)) (rim vs)
          (every_then (λ e. int_lt (pos 0) (side_of e.from e.to at s) ≡ true) (λ e. pos 0 <ℤ side (shift_edge at e) (mark s))
          (λ e b. subst (λ (k : ℤ). pos 0 <ℤ k) (side-placed e at s) (above_from (side_of e.from e.to at s) b)) (rim vs) rs)),
    )

pub inside_to : (vs : List Point) (at : Point) (s : Spot) → Inside (mark s) (map (shift at) vs) → IsTrue (is_inside vs at s)
inside_to vs at s i =
    let rs = map_every (shift_edge at) (λ e. pos 0 <ℤ side e (mark s)) (rim vs) (subst (λ es. Every (λ e. pos 0 <ℤ side e (mark s)) es) (rim-shift at vs) i.1) in
    true_every (λ e. int_lt (pos 0) (side_of e.0 e.1 at s)) (edges vs)
    (subst (λ es. Every (λ e. int_lt (pos 0) (side_of e.0 e.1 at s) ≡ true) es) (sym (edges-rim vs))
    (every_map pair (λ e. int_lt (pos 0) (side_of e.0 e.1 at s) ≡ true) (rim vs)
    (every_then (λ e. pos 0 <ℤ side (shift_edge at e) (mark s)) (λ e. int_lt (pos 0) (side_of e.from e.to at s) ≡ true)
    (λ e b. above_to (side_of e.from e.to at s) (subst (λ (k : ℤ). pos 0 <ℤ k) (sym (side-placed e at s)) b)) (rim vs) rs)))

-- ---- a vertex at its place, at an edge at its place
cross_at : (ax ay bx by vx vy px py qx qy : ℤ) → (bx -ℤ ax) *ℤ ((vy +ℤ (qy -ℤ py)) -ℤ ay) -ℤ (by -ℤ ay) *ℤ ((vx +ℤ (qx -ℤ px)) -ℤ ax) ≡ ((bx +ℤ px) -ℤ (ax +ℤ px)) *ℤ ((vy +ℤ qy) -ℤ pos 1 *ℤ (ay +ℤ py)) -ℤ ((by +ℤ py) -ℤ (ay +ℤ py)) *ℤ ((vx +ℤ qx) -ℤ pos 1 *ℤ (ax +ℤ px))
cross_at ax ay bx by vx vy px py qx qy = simp ring (omega (arith, linear))

cross-placed : (e : Edge) (v p q : Point) → cross e.from e.to (moved (way p q) v) ≡ side (shift_edge p e) (mark_of (shift q v))
cross-placed e v p q = cross_at e.from.x e.from.y e.to.x e.to.y v.x v.y p.x p.y q.x q.y

sees_from : (a b : List Point) (p q : Point) → EachEdgeSees a b (way p q) → Seen (map (shift p) a) (map (shift q) b)
sees_from a b p q h =
    subst (λ es. Every (λ e. Some_of (λ v. pos 0 <ℤ side e (mark_of v)) (map (shift q) b)) es) (sym (rim-shift p a))
    (every_map (shift_edge p) (λ e. Some_of (λ v. pos 0 <ℤ side e (mark_of v)) (map (shift q) b)) (rim a)
    (every_then (λ e. Any (λ v. pos 0 <ℤ cross e.from e.to (moved (way p q) v)) b) (λ e. Some_of (λ v. pos 0 <ℤ side (shift_edge p e) (mark_of v)) (map (shift q) b))
    (λ e s. some_map (shift q) (λ v. pos 0 <ℤ side (shift_edge p e) (mark_of v)) b
    (some_then (λ v. pos 0 <ℤ cross e.from e.to (moved (way p q) v)) (λ v. pos 0 <ℤ side (shift_edge p e) (mark_of (shift q v)))
    (λ v k. subst (λ (n : ℤ). pos 0 <ℤ n) (cross-placed e v p q) k) b (some_from_Any (λ v. pos 0 <ℤ cross e.from e.to (moved (way p q) v)) b s)))
    (rim a) (every_edge (λ e. Any (λ v. pos 0 <ℤ cross e.0 e.1 (moved (way p q) v)) b) a h)))

-- the edges of a, moved, of which one has no vertex of b, moved, on its inner side
abbrev Separating : List Point → Edge → Type 0
Separating qs e = Every (λ v. side e (mark_of v) ≤ℤ pos 0) qs

separating_from : (a b : List Point) (p q : Point) → HasSeparatingEdge a b (way p q) → Some_of (Separating (map (shift q) b)) (rim (map (shift p) a))
separating_from a b p q h =
    subst (λ es. Some_of (Separating (map (shift q) b)) es) (sym (rim-shift p a))
    (some_map (shift_edge p) (Separating (map (shift q) b)) (rim a)
    (some_then (λ e. All (λ v. cross e.from e.to (moved (way p q) v) ≤ℤ pos 0) b) (λ e. Separating (map (shift q) b) (shift_edge p e))
    (λ e s. every_map (shift q) (λ v. side (shift_edge p e) (mark_of v) ≤ℤ pos 0) b
    (every_then (λ v. cross e.from e.to (moved (way p q) v) ≤ℤ pos 0) (λ v. side (shift_edge p e) (mark_of (shift q v)) ≤ℤ pos 0)
    (λ v k. subst (λ (n : ℤ). n ≤ℤ pos 0) (cross-placed e v p q) k) b (every_from_All (λ v. cross e.from e.to (moved (way p q) v) ≤ℤ pos 0) b s)))
    (rim a) (some_edge (λ e. All (λ v. cross e.0 e.1 (moved (way p q) v) ≤ℤ pos 0) b) a h)))

-- no mark is inside both lines, where an edge of one separates
none_inside : (z : Mark) (q : Point) (qs : List Point) (es : List Edge) → Inside z (q ∷ qs) → Some_of (Separating (q ∷ qs)) es → Every (λ e. pos 0 <ℤ side e z) es → ⊥
none_inside z q qs [] j s k = s
none_inside z q qs (e ∷ es) j (inl s) k = separated e z q qs j k.0 s
none_inside z q qs (e ∷ es) j (inr s) k = none_inside z q qs es j s k.1

-- the law of separation: an edge of one shape on whose inner side no vertex of the other lies sets them apart
pub separation : (a b : List Point) (at_a at_b : Point) → 1 ≤ length b → HasSeparatingEdge a b (way at_a at_b) → AreApart a at_a b at_b
separation a [] p q l h = absurd (omega arith)
separation a (v ∷ vs) p q l h = λ s n i j.
    none_inside (mark s) (shift q v) (map (shift q) vs) (rim (map (shift p) a)) (inside_from (v ∷ vs) q s n j) (separating_from a (v ∷ vs) p q h) (inside_from a p s n i).1

-- apart is the same from either side
pub apart_both : (a b : List Point) (at_a at_b : Point) → AreApart a at_a b at_b → AreApart b at_b a at_a
apart_both a b p q h = λ s n i j. h s n j i

-- ---- where no edge of either separates, there is a spot in both
abbrev pub Shared : List Point → Point → List Point → Point → Type 0
Shared a at_a b at_b = (s : Spot) × (0 < s.n) × IsTrue (is_inside a at_a s) × IsTrue (is_inside b at_b s)

shared_at : (a b : List Point) (p q : Point) (x y n : ℤ) → Inside (record { x = x; y = y; n = n }) (map (shift p) a) → Inside (record { x = x; y = y; n = n }) (map (shift q) b) → Shared a p b q
shared_at a b p q x y (pos n) i j = (record { x = x; y = y; n = n }, (let h = i.0 in omega (arith, ints)), inside_to a p (record { x = x; y = y; n = n }) i, inside_to b q (record { x = x; y = y; n = n }) j)
shared_at a b p q x y (negsuc n) i j = absurd (let h = i.0 in omega (arith, ints))

pub shared : (a b : List Point) (at_a at_b : Point) → IsShape a → IsShape b → EachEdgeSees a b (way at_a at_b) → EachEdgeSees b a (way at_b at_a) → Shared a at_a b at_b
shared [] b p q s t f g = absurd (let n = s.some in omega arith)
shared (v ∷ vs) [] p q s t f g = absurd (let n = t.some in omega arith)
shared (v ∷ vs) (w ∷ ws) p q s t f g =
    let a = v ∷ vs in
    let b = w ∷ ws in
    let m = meet (shift p v) (map (shift p) vs) (shift q w) (map (shift q) ws)
    (convex_shifted p a (convex_from a s)) (convex_shifted q b (convex_from b t))
    (seen_shifted p a a (thick_from a s)) (seen_shifted q b b (thick_from b t))
    (sees_from a b p q f) (sees_from b a q p g) in
    shared_at a b p q m.0.x m.0.y m.0.n m.1 m.2

-- shapes with a spot in common are not apart
pub shared_not_apart : (a b : List Point) (at_a at_b : Point) → Shared a at_a b at_b → AreApart a at_a b at_b → ⊥
shared_not_apart a b p q m h = h m.0 m.1 m.2 m.3

-- ---- the same of equal shapes and shifts
pub edge_as : (a b c d : List Point) (v w : Point) → a ≡ c → b ≡ d → v ≡ w → HasSeparatingEdge a b v → HasSeparatingEdge c d w
edge_as a b c d v w e f g h = subst (λ w. HasSeparatingEdge c d w) g (subst (λ d. HasSeparatingEdge c d v) f (subst (λ c. HasSeparatingEdge c b v) e h))

pub sees_as : (a b c d : List Point) (v w : Point) → a ≡ c → b ≡ d → v ≡ w → EachEdgeSees a b v → EachEdgeSees c d w
sees_as a b c d v w e f g h = subst (λ w. EachEdgeSees c d w) g (subst (λ d. EachEdgeSees c d v) f (subst (λ c. EachEdgeSees c b v) e h))

-- ---- a shift
together : (v a x z n : ℤ) → (z +ℤ n *ℤ x) -ℤ n *ℤ (v +ℤ (a +ℤ x)) ≡ z -ℤ n *ℤ (v +ℤ a)
together v a x z n = simp ring (omega (arith, linear))

side-moved : (a b at by : Point) (s : Spot) → side_of a b (moved by at) (moved_spot by s) ≡ side_of a b at s
side-moved a b at by s =
    ap (λ (k : ℤ). (b.x -ℤ a.x) *ℤ k -ℤ (b.y -ℤ a.y) *ℤ ((s.x +ℤ pos s.n *ℤ by.x) -ℤ pos s.n *ℤ (a.x +ℤ (at.x +ℤ by.x)))) (together a.y at.y by.y s.y (pos s.n))
    ∙ ap (λ (k : ℤ). (b.x -ℤ a.x) *ℤ (s.y -ℤ pos s.n *ℤ (a.y +ℤ at.y)) -ℤ (b.y -ℤ a.y) *ℤ k) (together a.x at.x by.x s.x (pos s.n))

-- what is strictly inside stays so when shape and spot are shifted together
pub inside-moved : (vs : List Point) (at by : Point) (s : Spot) → is_inside vs (moved by at) (moved_spot by s) ≡ is_inside vs at s
inside-moved vs at by s =
    list_all-agree (λ e. int_lt (pos 0) (side_of e.0 e.1 (moved by at) (moved_spot by s))) (λ e. int_lt (pos 0) (side_of e.0 e.1 at s)) (edges vs)
    (λ e. ap (int_lt (pos 0)) (side-moved e.0 e.1 at by s))
