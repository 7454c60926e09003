-- The sides that are made from the edges are those of the sum.
use Rattle.std.proofs.Common.{◌≡◌, refl, sym, ap, subst, arith, ℕ, zero, suc, ◌<◌, List, [], ◌∷◌, ◌++◌, map, ◌⊎◌, inl, inr}
use Rattle.std.specs.List.{All, Contains, AllZip}
use Rattle.std.specs.List.Sorted.{IsPermutation}
use Rattle.std.proofs.lemmas.List.Sorted.{All-permutation, Contains-permutation, IsPermutation-map}
use Rattle.std.proofs.lemmas.List.Elements.{All-cons}
use Rattle.shape_exact.specs.declared.point.Point.{Point}
use Rattle.shape_exact.specs.Shapes.{cross, IsShape}
use Rattle.shape_exact.proofs.RingLaws.{linear, zero-mul}
use Rattle.shape_exact.specs.Plane.{Edge as Line, side, rim, Every, Some_of, mark_of}
use Rattle.shape_exact.proofs.LineLaws.{every_then}
use Rattle.shape_exact.specs.Sums.{Side as Wall, Furthest, Of_fixed, Of_moving, Same_way, Is_sum}
use Rattle.shape_exact.proofs.SumLaws.{pick, every_map}
use Rattle.shape_exact.proofs.MoveLaws.{some_map}
use Rattle.shape_exact.proofs.ZipLaws.{zip_some, zip_back}
use Rattle.shape_exact.proofs.BridgeLaws.{every_from_All, some_from_Any, side-cross, thick_from}
use Rattle.shape_exact.proofs.MeetLaws.{every_append}
use Rattle.minkowski_obstacles.specs.declared.edge.Edge.{Edge}
use Rattle.minkowski_obstacles.specs.declared.side.Side.{Side}
use Rattle.minkowski_obstacles.specs.Sums.{line, wall, fixed_side, moving_side}
use Rattle.minkowski_obstacles.specs.Merged.{half_turns, HasDirection}
use Rattle.minkowski_obstacles.proofs.DirectionLaws.{Way, way, up, down, nowhere}
use lib.IntN.{ℤ, pos, ◌-ℤ◌, ◌*ℤ◌}
use lib.Signed.{◌<ℤ◌, ◌≤ℤ◌}

pub some_from_contains : (vs : List Point) (m : Point) → Contains vs m → Some_of (λ v. v ≡ m) vs
some_from_contains vs m h = some_from_Any (λ v. v ≡ m) vs (h.0, m, h.1, h.2, refl)

-- the vertex that is found furthest, in the words of the lemmas
pub furthest_is : (e : Line) (vs : List Point) (m : Point) → Contains vs m → All (λ v. cross e.from e.to v ≤ℤ cross e.from e.to m) vs → Furthest e vs m
furthest_is e vs m h a = (
  some_from_contains vs m h,
  every_then (λ v. cross e.from e.to v ≤ℤ cross e.from e.to m) (λ v. side e (mark_of v) ≤ℤ side e (mark_of m))
      (λ v l. subst (λ (k : ℤ). k ≤ℤ side e (mark_of m)) (sym (side-cross e v)) (subst (λ (k : ℤ). cross e.from e.to v ≤ℤ k) (sym (side-cross e m)) l))
      vs (every_from_All (λ v. cross e.from e.to v ≤ℤ cross e.from e.to m) vs a),
)

pub of_fixed_is : (e : Edge) (vs : List Point) (m : Point) (s : Side) → Contains vs m → All (λ v. cross e.from e.to v ≤ℤ cross e.from e.to m) vs → s ≡ fixed_side e m → Of_fixed vs (line e) (wall s)
of_fixed_is e vs m s h a f = (m, furthest_is (line e) vs m h a, ap (λ (t : Side). wall t) f)

pub of_moving_is : (f : Edge) (us : List Point) (u : Point) (s : Side) → Contains us u → All (λ v. cross f.from f.to v ≤ℤ cross f.from f.to u) us → s ≡ moving_side f u → Of_moving us (line f) (wall s)
of_moving_is f us u s h a e = (u, furthest_is (line f) us u h a, ap (λ (t : Side). wall t) e)

-- ---- parts of lists
pub some_before : {A : Type 0} (P : A → Type 0) (xs : List A) (y : A) → Some_of P xs → Some_of P (xs ++ y ∷ [])
some_before P [] y h = absurd h
some_before P (x ∷ xs) y (inl h) = inl h
some_before P (x ∷ xs) y (inr h) = inr (some_before P xs y h)

pub some_left : {A : Type 0} (P : A → Type 0) (xs ys : List A) → Some_of P xs → Some_of P (xs ++ ys)
some_left P [] ys h = absurd h
some_left P (x ∷ xs) ys (inl h) = inl h
some_left P (x ∷ xs) ys (inr h) = inr (some_left P xs ys h)

pub some_right : {A : Type 0} (P : A → Type 0) (xs ys : List A) → Some_of P ys → Some_of P (xs ++ ys)
some_right P [] ys h = h
some_right P (x ∷ xs) ys h = inr (some_right P xs ys h)

-- the sides of both together are those of the sum
pub sum_from : (fs ms : List Point) (ss ts : List Side) → AllZip (λ e s. Of_fixed ms e (wall s)) (rim fs) ss → AllZip (λ f s. Of_moving fs f (wall s)) (rim ms) ts → Is_sum fs ms (map wall (ss ++ ts))
sum_from fs ms ss ts z y = record {
  sound = every_map wall (λ w. Some_of (λ e. Of_fixed ms e w) (rim fs) ⊎ Some_of (λ f. Of_moving fs f w) (rim ms)) (ss ++ ts)
      (every_append (λ t. Some_of (λ e. Of_fixed ms e (wall t)) (rim fs) ⊎ Some_of (λ f. Of_moving fs f (wall t)) (rim ms)) ss ts
      (every_then (λ t. Some_of (λ e. Of_fixed ms e (wall t)) (rim fs)) (λ t. Some_of (λ e. Of_fixed ms e (wall t)) (rim fs) ⊎ Some_of (λ f. Of_moving fs f (wall t)) (rim ms)) (λ t h. inl h) ss (zip_back (λ e t. Of_fixed ms e (wall t)) (rim fs) ss z))
      (every_then (λ t. Some_of (λ f. Of_moving fs f (wall t)) (rim ms)) (λ t. Some_of (λ e. Of_fixed ms e (wall t)) (rim fs) ⊎ Some_of (λ f. Of_moving fs f (wall t)) (rim ms)) (λ t h. inr h) ts (zip_back (λ f t. Of_moving fs f (wall t)) (rim ms) ts y)));
  fixed = every_then (λ e. Some_of (λ t. Of_fixed ms e (wall t)) ss) (λ e. Some_of (λ w. Of_fixed ms e w) (map wall (ss ++ ts)))
      (λ e h. some_map wall (λ w. Of_fixed ms e w) (ss ++ ts) (some_left (λ t. Of_fixed ms e (wall t)) ss ts h)) (rim fs) (zip_some (λ e t. Of_fixed ms e (wall t)) (rim fs) ss z);
  moving = every_then (λ f. Some_of (λ t. Of_moving fs f (wall t)) ts) (λ f. Some_of (λ w. Of_moving fs f w) (map wall (ss ++ ts)) ⊎ Some_of (λ e. Same_way e f) (rim fs))
      (λ f h. inl (some_map wall (λ w. Of_moving fs f w) (ss ++ ts) (some_right (λ t. Of_moving fs f (wall t)) ss ts h))) (rim ms) (zip_some (λ f t. Of_moving fs f (wall t)) (rim ms) ts y);
}

-- ---- another order of the sides
pub contains_from : {A : Type 0} (P : A → Type 0) (xs : List A) → Some_of P xs → (x : A) × Contains xs x × P x
contains_from P [] h = absurd h
contains_from P (x ∷ xs) (inl h) = (x, (zero, omega arith, refl), h)
contains_from P (x ∷ xs) (inr h) = let r = contains_from P xs h in (r.0, (suc r.1.0, (let l = r.1.1 in omega arith), r.1.2), r.2)

some_permuted : {A : Type 0} (P : A → Type 0) (xs ys : List A) → IsPermutation xs ys → Some_of P xs → Some_of P ys
some_permuted P xs ys p h =
    let r = contains_from P xs h in
    let c = Contains-permutation xs ys r.0 p r.1 in
    some_from_Any P ys (c.0, r.0, c.1, c.2, r.2)

pub all_from_every : {A : Type 0} (P : A → Type 0) (xs : List A) → Every P xs → All P xs
all_from_every P [] h = λ k d l. absurd (omega arith)
all_from_every P (x ∷ xs) h = All-cons P x xs h.0 (all_from_every P xs h.1)

every_permuted : {A : Type 0} (P : A → Type 0) (xs ys : List A) → IsPermutation xs ys → Every P xs → Every P ys
every_permuted P xs ys p h = every_from_All P ys (All-permutation P xs ys p (all_from_every P xs h))

pub sum_permuted : (fs ms : List Point) (ss ts : List Side) → IsPermutation ss ts → Is_sum fs ms (map wall ss) → Is_sum fs ms (map wall ts)
sum_permuted fs ms ss ts p u = record {
  sound = every_permuted (λ w. Some_of (λ e. Of_fixed ms e w) (rim fs) ⊎ Some_of (λ f. Of_moving fs f w) (rim ms)) (map wall ss) (map wall ts) q u.sound;
  fixed = every_then (λ e. Some_of (λ w. Of_fixed ms e w) (map wall ss)) (λ e. Some_of (λ w. Of_fixed ms e w) (map wall ts)) (λ e h. some_permuted (λ w. Of_fixed ms e w) (map wall ss) (map wall ts) q h) (rim fs) u.fixed;
  moving = every_then (λ f. Some_of (λ w. Of_moving fs f w) (map wall ss) ⊎ Some_of (λ e. Same_way e f) (rim fs)) (λ f. Some_of (λ w. Of_moving fs f w) (map wall ts) ⊎ Some_of (λ e. Same_way e f) (rim fs)) (λ f h. case f h) (rim ms) u.moving;
}
  where
    q : IsPermutation (map wall ss) (map wall ts)
    q = IsPermutation-map wall ss ts p

    case : (f : Line) → Some_of (λ w. Of_moving fs f w) (map wall ss) ⊎ Some_of (λ e. Same_way e f) (rim fs) → Some_of (λ w. Of_moving fs f w) (map wall ts) ⊎ Some_of (λ e. Same_way e f) (rim fs)
    case f (inl h) = inl (some_permuted (λ w. Of_moving fs f w) (map wall ss) (map wall ts) q h)
    case f (inr h) = inr h

-- ---- each side has a direction
no_side : (a b c d : ℤ) → a ≡ pos 0 → b ≡ pos 0 → pos 0 <ℤ (a *ℤ c -ℤ b *ℤ d) → ⊥
no_side a b c d e f h =
    let g : pos 0 <ℤ (pos 0 *ℤ c -ℤ pos 0 *ℤ d) = subst (λ (k : ℤ). pos 0 <ℤ (pos 0 *ℤ c -ℤ k *ℤ d)) f (subst (λ (k : ℤ). pos 0 <ℤ (k *ℤ c -ℤ b *ℤ d)) e h) in
    let m = zero-mul c in
    let n = zero-mul d in
    omega (arith, linear)

-- an edge that has a vertex strictly on its inner side has a direction, and so has the same edge turned round
edge_directed : (e : Line) (vs : List Point) → Some_of (λ v. pos 0 <ℤ side e (mark_of v)) vs → half_turns (record { x = e.to.x -ℤ e.from.x; y = e.to.y -ℤ e.from.y }) < 2
edge_directed e vs h = by (way (record { x = e.to.x -ℤ e.from.x; y = e.to.y -ℤ e.from.y }))
  where
    few : (h k : ℕ) → h ≡ k → k < 2 → h < 2
    few h k e l = omega arith

    by : Way (record { x = e.to.x -ℤ e.from.x; y = e.to.y -ℤ e.from.y }) → half_turns (record { x = e.to.x -ℤ e.from.x; y = e.to.y -ℤ e.from.y }) < 2
    by (up k u) = few _ 0 k (omega arith)
    by (down k l) = few _ 1 k (omega arith)
    by (nowhere k x y) = absurd (let r = contains_from (λ v. pos 0 <ℤ side e (mark_of v)) vs h in no_side (e.to.x -ℤ e.from.x) (e.to.y -ℤ e.from.y) _ _ x y r.2)

mirrored_directed : (f : Line) (vs : List Point) → Some_of (λ v. pos 0 <ℤ side f (mark_of v)) vs → half_turns (record { x = f.from.x -ℤ f.to.x; y = f.from.y -ℤ f.to.y }) < 2
mirrored_directed f vs h = by (way (record { x = f.from.x -ℤ f.to.x; y = f.from.y -ℤ f.to.y }))
  where
    few : (h k : ℕ) → h ≡ k → k < 2 → h < 2
    few h k e l = omega arith

    round : (a b : ℤ) → a -ℤ b ≡ pos 0 → b -ℤ a ≡ pos 0
    round a b e = omega (arith, linear)

    by : Way (record { x = f.from.x -ℤ f.to.x; y = f.from.y -ℤ f.to.y }) → half_turns (record { x = f.from.x -ℤ f.to.x; y = f.from.y -ℤ f.to.y }) < 2
    by (up k u) = few _ 0 k (omega arith)
    by (down k l) = few _ 1 k (omega arith)
    by (nowhere k x y) = absurd (let r = contains_from (λ v. pos 0 <ℤ side f (mark_of v)) vs h in no_side (f.to.x -ℤ f.from.x) (f.to.y -ℤ f.from.y) _ _ (round f.from.x f.to.x x) (round f.from.y f.to.y y) r.2)

pub fixed_directed : (fs ms : List Point) (ss : List Side) → IsShape fs → AllZip (λ e s. Of_fixed ms e (wall s)) (rim fs) ss → All HasDirection ss
fixed_directed fs ms ss f z = all_from_every HasDirection ss (every_then (λ s. Some_of (λ e. Of_fixed ms e (wall s)) (rim fs)) HasDirection (λ s h. at s h) ss (zip_back (λ e s. Of_fixed ms e (wall s)) (rim fs) ss z))
  where
    at : (s : Side) → Some_of (λ e. Of_fixed ms e (wall s)) (rim fs) → HasDirection s
    at s h =
        let p = pick (λ e. Of_fixed ms e (wall s)) (λ e. Some_of (λ v. pos 0 <ℤ side e (mark_of v)) fs) (rim fs) h (thick_from fs f) in
        subst (λ (d : Point). half_turns d < 2) (sym (ap (λ (w : Wall). w.along) p.1.2)) (edge_directed p.0 fs p.2)

pub moving_directed : (fs ms : List Point) (ts : List Side) → IsShape ms → AllZip (λ f s. Of_moving fs f (wall s)) (rim ms) ts → All HasDirection ts
moving_directed fs ms ts m z = all_from_every HasDirection ts (every_then (λ s. Some_of (λ f. Of_moving fs f (wall s)) (rim ms)) HasDirection (λ s h. at s h) ts (zip_back (λ f s. Of_moving fs f (wall s)) (rim ms) ts z))
  where
    at : (s : Side) → Some_of (λ f. Of_moving fs f (wall s)) (rim ms) → HasDirection s
    at s h =
        let p = pick (λ f. Of_moving fs f (wall s)) (λ f. Some_of (λ v. pos 0 <ℤ side f (mark_of v)) ms) (rim ms) h (thick_from ms m) in
        subst (λ (d : Point). half_turns d < 2) (sym (ap (λ (w : Wall). w.along) p.1.2)) (mirrored_directed p.0 ms p.2)
