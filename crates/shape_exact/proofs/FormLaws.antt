-- A quarter turn keeps what every footprint keeps.
use Rattle.std.proofs.Common.{◌≡◌, ℕ, zero, suc, ◌≤◌, List, [], ◌∷◌, get_or, map, refl, sym, ap, ◌∙◌, subst, arith, inl, inr}
use Rattle.std.specs.Prelude.{unsigned_abs, ℤ, pos, ◌≢◌, ◌-ℤ◌, ◌*ℤ◌, ◌≤ℤ◌, ◌<ℤ◌}
use Rattle.std.specs.List.{All, Any, AllPairs}
use Rattle.std.proofs.lemmas.Int.{ints, fold-int_max_reached}
use Rattle.std.proofs.lemmas.List.{length-map, get_or-map}
use Rattle.std.proofs.lemmas.List.Elements.{All-head, All-tail, All-map, All-weaker, All-contains}
use Rattle.shape_exact.specs.declared.point.Point.{Point}
use Rattle.shape_exact.specs.Shapes.{reach_x, cells, IsShape, edges, cross, least, greatest, turned, reach_y}
use Rattle.shape_exact.specs.Separation.{IsWithin}
use Rattle.shape_exact.proofs.RingLaws.{ring, linear}
use Rattle.shape_exact.proofs.TurnLaws.{turns_keep, rot-reach_x, rot-reach_y, IsNormal, rot, rot_both, edges-rot, high_y, turn_is, rot-normal}
use Rattle.shape_exact.proofs.CornerLaws.{above_least}

-- ---- lists
pub Any-map : {X Y : Type 0} (P : Y → Type 0) (f : X → Y) (xs : List X) → Any (λ x. P (f x)) xs → Any P (map f xs)
Any-map P f xs (k, x, l, e, p) = (k, f x, omega (arith, length-map xs f), get_or-map f xs k x (f x) l ∙ ap f e, p)

pub Any-weaker : {X : Type 0} (P Q : X → Type 0) (f : (x : X) → P x → Q x) (xs : List X) → Any P xs → Any Q xs
Any-weaker P Q f xs (k, x, l, e, p) = (k, x, l, e, f x p)

-- elements that differ stay different under a map that takes none to the image of another
pub distinct-map : {X Y : Type 0} (f : X → Y) (xs : List X) → ((a b : X) → f a ≡ f b → a ≡ b) → X → AllPairs (λ a b. a ≢ b) xs → AllPairs (λ a b. a ≢ b) (map f xs)
distinct-map f xs one o h i j d l m =
    let n = length-map xs f in
    let e = get_or-map f xs i o d (omega arith) in
    let g = get_or-map f xs j o d (omega arith) in
    λ same. h i j o l (omega arith) (one (get_or xs i o) (get_or xs j o) (sym e ∙ same ∙ g))

-- ---- the least and the greatest
-- the greatest is at most what each is
pub greatest_at_most : (f : Point → ℤ) (k : ℤ) (vs : List Point) → pos 0 ≤ℤ k → All (λ v. f v ≤ℤ k) vs → greatest f vs ≤ℤ k
greatest_at_most f k [] z h = z
greatest_at_most f k (v ∷ vs) z h =
    elim (fold-int_max_reached (f v) (map f vs) (greatest f (v ∷ vs)) refl) [
      | inl e ↦ subst (λ (x : ℤ). x ≤ℤ k) (sym e) (All-head (λ v. f v ≤ℤ k) v vs h)
      | inr c ↦ All-contains (λ x. x ≤ℤ k) (map f vs) (greatest f (v ∷ vs)) (All-map (λ x. x ≤ℤ k) f vs (All-tail (λ v. f v ≤ℤ k) v vs h)) c
    ]

-- no vertex of a footprint has a coordinate below 0
pub not_left : (vs : List Point) → IsShape vs → All (λ v. pos 0 ≤ℤ v.x) vs
not_left vs s = subst (λ (k : ℤ). All (λ v. k ≤ℤ v.x) vs) s.low_x (above_least (λ p. p.x) vs)

pub not_under : (vs : List Point) → IsShape vs → All (λ v. pos 0 ≤ℤ v.y) vs
not_under vs s = subst (λ (k : ℤ). All (λ v. k ≤ℤ v.y) vs) s.low_y (above_least (λ p. p.y) vs)

-- its coordinates are from 0 to 2000
pub within : (vs : List Point) → IsShape vs → All (IsWithin 2000) vs
within vs s = λ k d l.
    let x = not_left vs s k d l in
    let y = not_under vs s k d l in
    let r = s.reach k d l in
    (plain (get_or vs k d).x x r.0, plain (get_or vs k d).y y r.1)
  where
    plain : (a : ℤ) → pos 0 ≤ℤ a → a ≤ℤ pos 2000 → unsigned_abs a ≤ 2000
    plain a h l = omega (arith, ints)

-- a footprint as the laws of cells take it
pub normal : (vs : List Point) → IsShape vs → IsNormal vs
normal [] s = absurd (let n = s.some in omega arith)
normal (v ∷ vs) s = record { first = v; others = vs; is = refl; low_x = s.low_x; low_y = s.low_y }

-- it reaches up to 2000 at most
pub reach_y_limit : (vs : List Point) → IsShape vs → reach_y vs ≤ 2000
reach_y_limit vs s =
    let g = greatest_at_most (λ p. p.y) (pos 2000) vs (omega (arith, ints)) (All-weaker (λ v. (v.x ≤ℤ pos 2000) × (v.y ≤ℤ pos 2000)) (λ v. v.y ≤ℤ pos 2000) (λ v h. h.1) vs s.reach) in
    plain (greatest (λ p. p.y) vs) (reach_y vs) (high_y vs (normal vs s)) g
  where
    plain : (g : ℤ) (h : ℕ) → g ≡ pos h → g ≤ℤ pos 2000 → h ≤ 2000
    plain g h e l = omega (arith, ints)

-- ---- a quarter turn within a height
cross_at : (h ax ay bx by vx vy : ℤ) → ((h -ℤ by) -ℤ (h -ℤ ay)) *ℤ (vx -ℤ ax) -ℤ (bx -ℤ ax) *ℤ ((h -ℤ vy) -ℤ (h -ℤ ay)) ≡ (bx -ℤ ax) *ℤ (vy -ℤ ay) -ℤ (by -ℤ ay) *ℤ (vx -ℤ ax)
cross_at h ax ay bx by vx vy = simp ring (omega (arith, linear))

cross-rot : (h : ℕ) (a b v : Point) → cross (rot h a) (rot h b) (rot h v) ≡ cross a b v
cross-rot h a b v = cross_at (pos h) a.x a.y b.x b.y v.x v.y

rot_one : (h : ℕ) (a b : Point) → rot h a ≡ rot h b → a ≡ b
rot_one h a b e =
    let x : a.x ≡ b.x = ap (λ (p : Point). p.y) e in
    let y : a.y ≡ b.y = cancel (pos h) a.y b.y (ap (λ (p : Point). p.x) e) in
    ap (λ (k : ℤ). record { x = k; y = a.y }) x ∙ ap (λ (k : ℤ). record { x = b.x; y = k }) y
  where
    cancel : (h a b : ℤ) → (h -ℤ a) ≡ (h -ℤ b) → a ≡ b
    cancel h a b e = omega (arith, ints)

-- the footprint turned by a quarter within its height is a footprint
pub shape-rot : (vs : List Point) → IsShape vs → IsShape (map (rot (reach_y vs)) vs)
shape-rot vs s =
    let h = reach_y vs in
    let m = rot-normal vs (normal vs s) in
    let n = length-map vs (rot h) in
    let inner : Point × Point → Type 0 = λ e. All (λ v. pos 0 ≤ℤ cross e.0 e.1 v) vs in
    let outer : Point × Point → Type 0 = λ e. All (λ v. pos 0 ≤ℤ cross e.0 e.1 v) (map (rot h) vs) in
    let seen : Point × Point → Type 0 = λ e. Any (λ v. pos 0 <ℤ cross e.0 e.1 v) vs in
    let sees : Point × Point → Type 0 = λ e. Any (λ v. pos 0 <ℤ cross e.0 e.1 v) (map (rot h) vs) in
    record {
      some = let k = s.some in omega arith;
      few = let k = s.few in omega arith;
      low_x = m.low_x;
      low_y = m.low_y;
      reach = All-map (λ v. (v.x ≤ℤ pos 2000) × (v.y ≤ℤ pos 2000)) (rot h) vs
          (λ k d l. let r = s.reach k d l in let u = not_under vs s k d l in (under (get_or vs k d).y h (reach_y_limit vs s) u, r.0));
      distinct = distinct-map (rot h) vs (rot_one h) m.first s.distinct;
      convex = subst (λ es. All outer es) (sym (edges-rot h vs)) (All-map outer (rot_both h) (edges vs)
          (All-weaker inner (λ e. outer (rot_both h e)) (λ e a. All-map (λ v. pos 0 ≤ℤ cross (rot h e.0) (rot h e.1) v) (rot h) vs
          (All-weaker (λ v. pos 0 ≤ℤ cross e.0 e.1 v) (λ v. pos 0 ≤ℤ cross (rot h e.0) (rot h e.1) (rot h v)) (λ v k. subst (λ (c : ℤ). pos 0 ≤ℤ c) (sym (cross-rot h e.0 e.1 v)) k) vs a)) (edges vs) s.convex));
      wide = subst (λ es. Any sees es) (sym (edges-rot h vs)) (Any-map sees (rot_both h) (edges vs)
          (Any-weaker seen (λ e. sees (rot_both h e)) (λ e a. Any-map (λ v. pos 0 <ℤ cross (rot h e.0) (rot h e.1) v) (rot h) vs
          (Any-weaker (λ v. pos 0 <ℤ cross e.0 e.1 v) (λ v. pos 0 <ℤ cross (rot h e.0) (rot h e.1) (rot h v)) (λ v k. subst (λ (c : ℤ). pos 0 <ℤ c) (sym (cross-rot h e.0 e.1 v)) k) vs a)) (edges vs) s.wide));
    }
  where
    under : (y : ℤ) (h : ℕ) → h ≤ 2000 → pos 0 ≤ℤ y → (pos h -ℤ y) ≤ℤ pos 2000
    under y h l u = omega (arith, ints)

-- one quarter turn is that
pub quarter_is : (vs : List Point) → IsShape vs → turned 1 vs ≡ map (rot (reach_y vs)) vs
quarter_is vs s = turn_is vs (normal vs s)

-- each turn of a footprint is a footprint
pub shape-turned : (q : ℕ) (vs : List Point) → IsShape vs → IsShape (turned q vs)
shape-turned zero vs s = s
shape-turned (suc q) vs s =
    let t = shape-turned q vs s in
    subst IsShape (sym (turn_is (turned q vs) (normal (turned q vs) t))) (shape-rot (turned q vs) t)

-- points turned within the height are the footprint turned
pub turned_points : (vs ws : List Point) (h : ℤ) → IsShape vs → h ≡ pos (reach_y vs) → ws ≡ map (λ v. record { x = h -ℤ v.y; y = v.x }) vs → (ws ≡ turned 1 vs) × IsShape ws
turned_points vs ws h s top is =
    let e : ws ≡ map (rot (reach_y vs)) vs = is ∙ ap (λ (k : ℤ). map (λ (v : Point). record { x = k -ℤ v.y; y = v.x }) vs) top in
    (e ∙ sym (quarter_is vs s), subst IsShape (sym e) (shape-rot vs s))

-- each turn keeps the cells
pub cells-turned : (q : ℕ) (vs : List Point) → IsShape vs → cells (turned q vs) ≡ cells vs
cells-turned q vs s = (turns_keep q vs (normal vs s)).1

-- ---- four quarter turns
four_at : (w h x y : ℤ) → (w -ℤ (w -ℤ x) ≡ x) × (h -ℤ (h -ℤ y) ≡ y)
four_at w h x y = (omega (arith, linear), omega (arith, linear))

four_rots : (w h : ℕ) (vs : List Point) → map (rot w) (map (rot h) (map (rot w) (map (rot h) vs))) ≡ vs
four_rots w h [] = refl
four_rots w h (v ∷ vs) =
    let e = four_at (pos w) (pos h) v.x v.y in
    ap (λ (u : Point). u ∷ map (rot w) (map (rot h) (map (rot w) (map (rot h) vs)))) (ap (λ (x : ℤ). record { x = x; y = pos h -ℤ (pos h -ℤ v.y) }) e.0 ∙ ap (λ (y : ℤ). record { x = v.x; y = y }) e.1)
    ∙ ap (λ (us : List Point). v ∷ us) (four_rots w h vs)

-- two quarter turns, within the height and then within the width
two_turns : (vs : List Point) → IsShape vs → (turned 2 vs ≡ map (rot (reach_x vs)) (map (rot (reach_y vs)) vs)) × (reach_y (turned 2 vs) ≡ reach_y vs) × (reach_x (turned 2 vs) ≡ reach_x vs)
two_turns vs s =
    let one = quarter_is vs s in
    let t = shape-rot vs s in
    let m = normal vs s in
    let u = map (rot (reach_y vs)) vs in
    let e : turned 2 vs ≡ map (rot (reach_y u)) u = ap (turned 1) one ∙ quarter_is u t in
    let x = rot-reach_x vs m in
    let y = rot-reach_y vs m in
    let v = map (rot (reach_y u)) u in (
      e ∙ ap (λ k. map (rot k) u) y,
      ap reach_y e ∙ rot-reach_y u (normal u t) ∙ x,
      ap reach_x e ∙ rot-reach_x u (normal u t) ∙ y,
    )

-- four quarter turns give the shape back
pub four_turns : (vs : List Point) → IsShape vs → turned 4 vs ≡ vs
four_turns vs s =
    let a = two_turns vs s in
    let b = two_turns (turned 2 vs) (shape-turned 2 vs s) in
    b.0 ∙ ap (λ w. map (rot w) (map (rot (reach_y (turned 2 vs))) (turned 2 vs))) a.2
    ∙ ap (λ h. map (rot (reach_x vs)) (map (rot h) (turned 2 vs))) a.1
    ∙ ap (λ (us : List Point). map (rot (reach_x vs)) (map (rot (reach_y vs)) us)) a.0
    ∙ four_rots (reach_x vs) (reach_y vs) vs
