-- Outlines: closed lines of points, by the numbers of their vertices. An outline keeps what a footprint keeps when it is
-- walked the other way round, and gives a footprint when it is shifted to least x and least y 0.
use Rattle.std.proofs.Common.{◌≡◌, ℕ, zero, suc, ◌+◌, ◌-◌, ◌<◌, ◌≤◌, List, [], ◌∷◌, length, map, get_or, refl, sym, ap, ◌∙◌, subst, arith, inl, inr, true, false}
use Rattle.std.specs.Prelude.{ℤ, pos, negsuc, ◌-ℤ◌, ◌*ℤ◌, ◌≤ℤ◌, ◌<ℤ◌, neg_ℤ, unsigned_abs, fold, nat_lt, if◌then◌else◌, ◌≢◌}
use Rattle.std.specs.Int.{int_min}
use Rattle.std.specs.List.{All, Any, AllPairs}
use Rattle.std.proofs.lemmas.Bool.{cases_lt}
use Rattle.std.proofs.lemmas.Bool.Decides.{nat_tests}
use Rattle.std.proofs.lemmas.Int.{ints, clamps}
use Rattle.std.proofs.lemmas.List.{get_or-reverse, get_or-map, get_or_default, length-map, length-reverse}
use Rattle.std.proofs.lemmas.List.Elements.{All-from_get_or}
use Rattle.shape_exact.specs.declared.point.Point.{Point}
use Rattle.shape_exact.specs.Shapes.{IsShape, IsConvex, edges, cross, origin, least, shifted}
use Rattle.shape_exact.specs.Reading.{vertex, edge, cross_at, backwards}
use Rattle.shape_exact.proofs.RingLaws.{ring, linear}
use Rattle.shape_exact.proofs.CornerLaws.{least_within}
use Rattle.shape_exact.proofs.FlipLaws.{side_flip}
use Rattle.shape_exact.proofs.BridgeLaws.{edge_inner, edge_closing, length-edges}
use Rattle.shape_exact.specs.Separation.{IsWithin}

-- few vertices near the origin, no two equal, none on the right of an edge, and one on the left of an edge
pub record IsOutline (vs : List Point) : Type 0 where
  pub some : 3 ≤ length vs
  pub few : length vs ≤ 16
  pub near : All (IsWithin 1000) vs
  pub once : (i j : ℕ) → i < length vs → j < length vs → vertex vs i ≡ vertex vs j → i ≡ j
  pub convex : (e v : ℕ) → e < length vs → v < length vs → pos 0 ≤ℤ cross_at vs e v
  pub wide : (e : ℕ) × (v : ℕ) × (e < length vs) × (v < length vs) × (pos 0 <ℤ cross_at vs e v)

-- the number of the vertex after number e, of n
abbrev after : ℕ → ℕ → ℕ
after n e = if nat_lt (e + 1) n then e + 1 else 0

after_below : (n e : ℕ) → e < n → after n e < n
after_below n e l = elim (cases_lt (e + 1) n) [
  | inl inner ↦ let yes : nat_lt (e + 1) n ≡ true = grind (arith, nat_tests) in rw yes inner
  | inr last ↦ let no : nat_lt (e + 1) n ≡ false = grind (arith, nat_tests) in rw no (omega arith)
]

edge_is : (vs : List Point) (e : ℕ) → e < length vs → edge vs e ≡ (vertex vs e, vertex vs (after (length vs) e))
edge_is vs e l = elim (cases_lt (e + 1) (length vs)) [
  | inl inner ↦ let yes : nat_lt (e + 1) (length vs) ≡ true = grind (arith, nat_tests) in rw yes (edge_inner vs e (origin, origin) origin inner)
  | inr last ↦ let no : nat_lt (e + 1) (length vs) ≡ false = grind (arith, nat_tests) in rw no (edge_closing vs e (origin, origin) origin (omega arith))
]

-- ---- walked the other way round
-- the number that the vertex had
abbrev back : ℕ → ℕ → ℕ
back n zero = 0
back n (suc k) = n - suc k

back_below : (n k : ℕ) → k < n → back n k < n
back_below n zero l = l
back_below n (suc k) l = omega arith

back_back : (n k : ℕ) → k < n → back n (back n k) ≡ k
back_back n zero l = refl
back_back n (suc k) l = at (n - suc k) refl
  where
    at : (m : ℕ) → n - suc k ≡ m → back n m ≡ suc k
    at zero e = omega arith
    at (suc m) e = omega arith

back_after : (n e : ℕ) → e < n → back n (after n e) ≡ n - 1 - e
back_after n e l = elim (cases_lt (e + 1) n) [
  | inl inner ↦ let yes : nat_lt (e + 1) n ≡ true = grind (arith, nat_tests) in rw yes (at (e + 1) refl)
  | inr last ↦ let no : nat_lt (e + 1) n ≡ false = grind (arith, nat_tests) in rw no (omega arith)
]
  where
    at : (m : ℕ) → e + 1 ≡ m → back n m ≡ n - 1 - e
    at zero h = absurd (omega arith)
    at (suc m) h = omega arith

after_back : (n e : ℕ) → e < n → after n (n - 1 - e) ≡ back n e
after_back n zero l = let no : nat_lt (n - 1 - 0 + 1) n ≡ false = grind (arith, nat_tests) in rw no refl
after_back n (suc e) l = let yes : nat_lt (n - 1 - suc e + 1) n ≡ true = grind (arith, nat_tests) in rw yes (omega arith)

-- as many vertices
pub length-backwards : (vs : List Point) → length (backwards vs) ≡ length vs
length-backwards [] = refl
length-backwards (v ∷ vs) = ap suc (length-reverse vs)

vertex-backwards : (vs : List Point) (k : ℕ) → k < length vs → vertex (backwards vs) k ≡ vertex vs (back (length vs) k)
vertex-backwards [] k l = absurd (omega arith)
vertex-backwards (v ∷ vs) zero l = refl
vertex-backwards (v ∷ vs) (suc k) l =
    get_or-reverse vs k origin (omega arith)
    ∙ at (length vs - 1 - k) (length (v ∷ vs) - suc k) (omega arith)
  where
    at : (i j : ℕ) → j ≡ suc i → get_or vs i origin ≡ get_or (v ∷ vs) j origin
    at i j e = rw e refl

-- in range where they were
pub near-backwards : (vs : List Point) → All (IsWithin 1000) vs → All (IsWithin 1000) (backwards vs)
near-backwards vs h =
    let n = length-backwards vs in
    All-from_get_or (IsWithin 1000) (backwards vs) origin
    (λ i l. subst (IsWithin 1000) (sym (vertex-backwards vs i (omega arith)))
    (h (back (length vs) i) origin (back_below (length vs) i (omega arith))))

edge-backwards : (vs : List Point) (e : ℕ) → e < length vs
    → edge (backwards vs) e ≡ ((edge vs (length vs - 1 - e)).1, (edge vs (length vs - 1 - e)).0)
edge-backwards vs e l =
    let n = length-backwards vs in
    edge_is (backwards vs) e (omega arith)
    ∙ ap (λ k. (vertex (backwards vs) e, vertex (backwards vs) (after k e))) n
    ∙ ap (λ (p : Point). (p, vertex (backwards vs) (after (length vs) e))) (vertex-backwards vs e l)
    ∙ ap (λ (p : Point). (vertex vs (back (length vs) e), p)) (vertex-backwards vs (after (length vs) e) (after_below (length vs) e l))
    ∙ ap (λ k. (vertex vs (back (length vs) e), vertex vs k)) (back_after (length vs) e l)
    ∙ ap (λ k. (vertex vs k, vertex vs (length vs - 1 - e))) (sym (after_back (length vs) e l))
    ∙ sym (ap (λ (d : Point × Point). (d.1, d.0)) (edge_is vs (length vs - 1 - e) (omega arith)))

-- each cross product changes its sign
pub cross-backwards : (vs : List Point) (e v : ℕ) → e < length vs → v < length vs
    → cross_at (backwards vs) e v ≡ neg_ℤ (cross_at vs (length vs - 1 - e) (back (length vs) v))
cross-backwards vs e v l m =
    ap (λ (d : Point × Point). cross d.0 d.1 (vertex (backwards vs) v)) (edge-backwards vs e l)
    ∙ ap (λ (p : Point). cross (edge vs (length vs - 1 - e)).1 (edge vs (length vs - 1 - e)).0 p) (vertex-backwards vs v m)
    ∙ side_flip (edge vs (length vs - 1 - e)).0 (edge vs (length vs - 1 - e)).1 (vertex vs (back (length vs) v))

-- a line that is walked clockwise, the other way round
pub outline-backwards : (vs : List Point) → 3 ≤ length vs → length vs ≤ 16
    → All (IsWithin 1000) vs
    → ((i j : ℕ) → i < length vs → j < length vs → vertex vs i ≡ vertex vs j → i ≡ j)
    → ((e v : ℕ) → e < length vs → v < length vs → cross_at vs e v ≤ℤ pos 0)
    → (e : ℕ) × (v : ℕ) × (e < length vs) × (v < length vs) × (cross_at vs e v <ℤ pos 0)
    → IsOutline (backwards vs)
outline-backwards vs some few near once right (e, v, l, m, strict) =
    let n = length-backwards vs in
    record {
      some = omega arith;
      few = omega arith;
      near = near-backwards vs near;
      once = λ i j k o same.
          let one : back (length vs) i ≡ back (length vs) j = once (back (length vs) i) (back (length vs) j) (back_below (length vs) i (omega arith)) (back_below (length vs) j (omega arith))
          (sym (vertex-backwards vs i (omega arith)) ∙ same ∙ vertex-backwards vs j (omega arith)) in
          sym (back_back (length vs) i (omega arith)) ∙ ap (back (length vs)) one ∙ back_back (length vs) j (omega arith);
      convex = λ d w k o. subst (λ (z : ℤ). pos 0 ≤ℤ z) (sym (cross-backwards vs d w (omega arith) (omega arith)))
          (flipped (cross_at vs (length vs - 1 - d) (back (length vs) w)) (right (length vs - 1 - d) (back (length vs) w) (omega arith) (back_below (length vs) w (omega arith))));
      wide =
          let k : length vs - 1 - e < length vs = omega arith in
          let o : back (length vs) v < length vs = back_below (length vs) v m in
          let same : cross_at vs (length vs - 1 - (length vs - 1 - e)) (back (length vs) (back (length vs) v)) ≡ cross_at vs e v =
          ap (λ d. cross_at vs d (back (length vs) (back (length vs) v))) (let r : length vs - 1 - (length vs - 1 - e) ≡ e = omega arith in r)
          ∙ ap (cross_at vs e) (back_back (length vs) v m) in (
            length vs - 1 - e,
            back (length vs) v,
            omega arith,
            omega arith,
            subst (λ (z : ℤ). pos 0 <ℤ z) (sym (cross-backwards vs (length vs - 1 - e) (back (length vs) v) k o ∙ ap neg_ℤ same)) (above (cross_at vs e v) strict),
          );
    }
  where
    flipped : (z : ℤ) → z ≤ℤ pos 0 → pos 0 ≤ℤ neg_ℤ z
    flipped z h = omega (arith, ints)

    above : (z : ℤ) → z <ℤ pos 0 → pos 0 <ℤ neg_ℤ z
    above z h = omega (arith, ints)

-- ---- shifted
-- the least coordinate of moved points
least_moved : (f : Point → ℤ) (g : Point → Point) (m : ℤ) → ((p : Point) → f (g p) ≡ (f p -ℤ m)) → (vs : List Point) → 1 ≤ length vs
    → least f (map g vs) ≡ (least f vs -ℤ m)
least_moved f g m h [] l = absurd (omega arith)
least_moved f g m h (v ∷ vs) l = ap (λ z. fold int_min z (map f (map g vs))) (h v) ∙ along (f v) vs
  where
    less : (a b : ℤ) → int_min (a -ℤ m) (b -ℤ m) ≡ (int_min a b -ℤ m)
    less a b = omega (arith, ints, clamps)

    along : (a : ℤ) (us : List Point) → fold int_min (a -ℤ m) (map f (map g us)) ≡ (fold int_min a (map f us) -ℤ m)
    along a [] = refl
    along a (u ∷ us) =
        ap (λ z. fold int_min (int_min (a -ℤ m) z) (map f (map g us))) (h u)
        ∙ ap (λ z. fold int_min z (map f (map g us))) (less a (f u)) ∙ along (int_min a (f u)) us

-- the way from a corner to a point
abbrev way : ℤ → ℤ → Point → Point
way x y p = record { x = p.x -ℤ x; y = p.y -ℤ y }

cross_at_way : (x y ax ay bx by vx vy : ℤ)
    → ((bx -ℤ x) -ℤ (ax -ℤ x)) *ℤ ((vy -ℤ y) -ℤ (ay -ℤ y)) -ℤ ((by -ℤ y) -ℤ (ay -ℤ y)) *ℤ ((vx -ℤ x) -ℤ (ax -ℤ x))
    ≡ (bx -ℤ ax) *ℤ (vy -ℤ ay) -ℤ (by -ℤ ay) *ℤ (vx -ℤ ax)
cross_at_way x y ax ay bx by vx vy = simp ring (omega (arith, linear))

cross-way : (x y : ℤ) (a b v : Point) → cross (way x y a) (way x y b) (way x y v) ≡ cross a b v
cross-way x y a b v = cross_at_way x y a.x a.y b.x b.y v.x v.y

vertex-map : (f : Point → Point) (vs : List Point) (i : ℕ) → i < length vs → vertex (map f vs) i ≡ f (vertex vs i)
vertex-map f vs i l = get_or-map f vs i origin origin l

cross_at-way : (x y : ℤ) (vs : List Point) (e v : ℕ) → e < length vs → v < length vs → cross_at (map (way x y) vs) e v ≡ cross_at vs e v
cross_at-way x y vs e v l m =
    let n = length-map vs (way x y) in
    let o : after (length vs) e < length vs = after_below (length vs) e l in
    ap (λ (d : Point × Point). cross d.0 d.1 (vertex (map (way x y) vs) v)) (edge_is (map (way x y) vs) e (omega arith))
    ∙ ap (λ k. cross (vertex (map (way x y) vs) e) (vertex (map (way x y) vs) (after k e)) (vertex (map (way x y) vs) v)) n
    ∙ ap (λ (p : Point). cross p (vertex (map (way x y) vs) (after (length vs) e)) (vertex (map (way x y) vs) v)) (vertex-map (way x y) vs e l)
    ∙ ap (λ (p : Point). cross (way x y (vertex vs e)) p (vertex (map (way x y) vs) v)) (vertex-map (way x y) vs (after (length vs) e) o)
    ∙ ap (λ (p : Point). cross (way x y (vertex vs e)) (way x y (vertex vs (after (length vs) e))) p) (vertex-map (way x y) vs v m)
    ∙ cross-way x y (vertex vs e) (vertex vs (after (length vs) e)) (vertex vs v)
    ∙ sym (ap (λ (d : Point × Point). cross d.0 d.1 (vertex vs v)) (edge_is vs e l))

way_one : (x y : ℤ) (a b : Point) → way x y a ≡ way x y b → a ≡ b
way_one x y a b e =
    ap (λ (k : ℤ). record { x = k; y = a.y }) (cancel x a.x b.x (ap (λ (p : Point). p.x) e))
    ∙ ap (λ (k : ℤ). record { x = b.x; y = k }) (cancel y a.y b.y (ap (λ (p : Point). p.y) e))
  where
    cancel : (h a b : ℤ) → (a -ℤ h) ≡ (b -ℤ h) → a ≡ b
    cancel h a b e = omega (arith, ints)

-- the words of a footprint's invariant, from those of an outline
convex_by : (vs : List Point) → ((e v : ℕ) → e < length vs → v < length vs → pos 0 ≤ℤ cross_at vs e v) → IsConvex vs
convex_by vs h =
    let n = length-edges vs in
    All-from_get_or (λ e. All (λ v. pos 0 ≤ℤ cross e.0 e.1 v) vs) (edges vs) (origin, origin)
    (λ e l. All-from_get_or (λ v. pos 0 ≤ℤ cross (edge vs e).0 (edge vs e).1 v) vs origin (λ v m. h e v (omega arith) m))

wide_by : (vs : List Point) (e v : ℕ) → e < length vs → v < length vs → pos 0 <ℤ cross_at vs e v
    → Any (λ e. Any (λ v. pos 0 <ℤ cross e.0 e.1 v) vs) (edges vs)
wide_by vs e v l m h =
    let n = length-edges vs in (
      e,
      edge vs e,
      omega arith,
      get_or_default (edges vs) e (edge vs e) (origin, origin) (omega arith),
      (v, vertex vs v, m, get_or_default vs v (vertex vs v) origin m, h),
    )

distinct_by : (vs : List Point) → ((i j : ℕ) → i < length vs → j < length vs → vertex vs i ≡ vertex vs j → i ≡ j) → AllPairs (λ v w. v ≢ w) vs
distinct_by vs once i j d l m same =
    let e : i ≡ j = once i j (omega arith) m (get_or_default vs i origin d (omega arith) ∙ same ∙ get_or_default vs j d origin m) in
    absurd (omega arith)

-- an outline shifted to least x and least y 0 is a footprint
pub shape-shifted : (vs : List Point) → IsOutline vs → IsShape (shifted vs)
shape-shifted vs o =
    let x = least (λ p. p.x) vs in
    let y = least (λ p. p.y) vs in
    let n = length-map vs (way x y) in
    let many : 1 ≤ length vs = let s = o.some in omega arith in
    let low_x : negsuc 999 ≤ℤ x = least_within (λ p. p.x) (negsuc 999) vs many
    (All-from_get_or (λ (p : Point). negsuc 999 ≤ℤ p.x) vs origin (λ i l. low (vertex vs i).x (o.near i origin l).0)) in
    let low_y : negsuc 999 ≤ℤ y = least_within (λ p. p.y) (negsuc 999) vs many
    (All-from_get_or (λ (p : Point). negsuc 999 ≤ℤ p.y) vs origin (λ i l. low (vertex vs i).y (o.near i origin l).1)) in
    record {
      some = let s = o.some in omega arith;
      few = let s = o.few in omega arith;
      low_x = least_moved (λ p. p.x) (way x y) x (λ p. refl) vs many ∙ none x;
      low_y = least_moved (λ p. p.y) (way x y) y (λ p. refl) vs many ∙ none y;
      reach = All-from_get_or (λ (v : Point). (v.x ≤ℤ pos 2000) × (v.y ≤ℤ pos 2000)) (map (way x y) vs) origin
          (λ i l. subst (λ (v : Point). (v.x ≤ℤ pos 2000) × (v.y ≤ℤ pos 2000)) (sym (vertex-map (way x y) vs i (omega arith)))
          (reach (vertex vs i).x x (o.near i origin (omega arith)).0 low_x, reach (vertex vs i).y y (o.near i origin (omega arith)).1 low_y));
      distinct = distinct_by (map (way x y) vs) (λ i j l m same. o.once i j (omega arith) (omega arith)
          (way_one x y (vertex vs i) (vertex vs j) (sym (vertex-map (way x y) vs i (omega arith)) ∙ same ∙ vertex-map (way x y) vs j (omega arith))));
      convex = convex_by (map (way x y) vs) (λ e v l m. subst (λ (z : ℤ). pos 0 ≤ℤ z) (sym (cross_at-way x y vs e v (omega arith) (omega arith)))
          (o.convex e v (omega arith) (omega arith)));
      wide = let (e, v, l, m, h) = o.wide in
          wide_by (map (way x y) vs) e v (omega arith) (omega arith) (subst (λ (z : ℤ). pos 0 <ℤ z) (sym (cross_at-way x y vs e v l m)) h);
    }
  where
    low : (z : ℤ) → unsigned_abs z ≤ 1000 → negsuc 999 ≤ℤ z
    low z h = omega (arith, ints)

    none : (z : ℤ) → (z -ℤ z) ≡ pos 0
    none z = omega (arith, ints)

    reach : (a b : ℤ) → unsigned_abs a ≤ 1000 → negsuc 999 ≤ℤ b → (a -ℤ b) ≤ℤ pos 2000
    reach a b h k = omega (arith, ints)
