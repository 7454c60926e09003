-- Facts on footprints.
use Rattle.std.proofs.Common.{◌≡◌, zero, suc, ◌≤◌, List, [], ◌∷◌, ◌++◌, get_or, refl, ap, arith, subst}
use Rattle.std.specs.Prelude.{ℤ, pos, negsuc, ◌≢◌, ◌≤ℤ◌, ◌<ℤ◌, unsigned_abs}
use Rattle.std.specs.List.{All, Any, AllPairs, zip}
use Rattle.std.proofs.lemmas.Int.{ints, by_lt_z}
use Rattle.shape_exact.proofs.RingLaws.{ring, linear}
use Rattle.shape_exact.proofs.CornerLaws.{above_least, below_greatest, greatest_within}
use Rattle.std.proofs.lemmas.List.Elements.{All-nil, All-cons, All-head, All-tail, All-push}
use Rattle.shape_exact.specs.declared.point.Point.{Point}
use Rattle.shape_exact.specs.Shapes.{IsShape, cross, edges, least, greatest}

all_three : {A : Type 0} (P : A → Type 0) (a b c : A) → P a → P b → P c → All P (a ∷ b ∷ c ∷ [])
all_three P a b c x y z = All-cons P a (b ∷ c ∷ []) x (All-cons P b (c ∷ []) y (All-cons P c [] z (All-nil P)))

pairs_three : {A : Type 0} (R : A → A → Type 0) (a b c : A) → R a b → R a c → R b c → AllPairs R (a ∷ b ∷ c ∷ [])
pairs_three R a b c x y z zero zero d i j = absurd (omega arith)
pairs_three R a b c x y z zero (suc zero) d i j = x
pairs_three R a b c x y z zero (suc (suc zero)) d i j = y
pairs_three R a b c x y z zero (suc (suc (suc k))) d i j = absurd (omega arith)
pairs_three R a b c x y z (suc zero) zero d i j = absurd (omega arith)
pairs_three R a b c x y z (suc zero) (suc zero) d i j = absurd (omega arith)
pairs_three R a b c x y z (suc zero) (suc (suc zero)) d i j = z
pairs_three R a b c x y z (suc zero) (suc (suc (suc k))) d i j = absurd (omega arith)
pairs_three R a b c x y z (suc (suc h)) zero d i j = absurd (omega arith)
pairs_three R a b c x y z (suc (suc h)) (suc zero) d i j = absurd (omega arith)
pairs_three R a b c x y z (suc (suc h)) (suc (suc zero)) d i j = absurd (omega arith)
pairs_three R a b c x y z (suc (suc h)) (suc (suc (suc k))) d i j = absurd (omega arith)

unlike_x : (v w : Point) → v.x ≢ w.x → v ≢ w
unlike_x v w n e = n (ap (λ (p : Point). p.x) e)

unlike_y : (v w : Point) → v.y ≢ w.y → v ≢ w
unlike_y v w n e = n (ap (λ (p : Point). p.y) e)

-- the triangle of half a unit cell is a footprint
pub half_cell : IsShape (record { x = pos 0; y = pos 0 } ∷ record { x = pos 1; y = pos 0 } ∷ record { x = pos 0; y = pos 1 } ∷ [])
half_cell =
    let a : Point = record { x = pos 0; y = pos 0 } in
    let b : Point = record { x = pos 1; y = pos 0 } in
    let c : Point = record { x = pos 0; y = pos 1 } in
    let vs : List Point = a ∷ b ∷ c ∷ [] in
    let inner : (e : Point × Point) → Type 0 = λ e. All (λ v. pos 0 ≤ℤ cross e.0 e.1 v) vs in
    let beyond : (e : Point × Point) (v : Point) → Type 0 = λ e v. pos 0 ≤ℤ cross e.0 e.1 v in
    record {
      some = omega arith;
      few = omega arith;
      low_x = refl;
      low_y = refl;
      reach = all_three (λ v. (v.x ≤ℤ pos 2000) × (v.y ≤ℤ pos 2000)) a b c (omega arith, omega arith) (omega arith, omega arith) (omega arith, omega arith);
      distinct = pairs_three (λ v w. v ≢ w) a b c (unlike_x a b (λ e. cc)) (unlike_y a c (λ e. cc)) (unlike_x b c (λ e. cc));
      convex = all_three inner (a, b) (b, c) (c, a)
          (all_three (beyond (a, b)) a b c (omega arith) (omega arith) (omega arith))
          (all_three (beyond (b, c)) a b c (omega arith) (omega arith) (omega arith))
          (all_three (beyond (c, a)) a b c (omega arith) (omega arith) (omega arith));
      wide = (0, (a, b), omega arith, refl, (2, c, omega arith, refl, omega arith));
    }

zip_both : {A : Type 0} (P : A → Type 0) (us vs : List A) → All P us → All P vs → All (λ e. P e.0 × P e.1) (zip us vs)
zip_both P [] vs h i = All-nil _
zip_both P (u ∷ us) [] h i = All-nil _
zip_both P (u ∷ us) (v ∷ vs) h i =
    All-cons (λ e. P e.0 × P e.1) (u, v) (zip us vs) (All-head P u us h, All-head P v vs i) (zip_both P us vs (All-tail P u us h) (All-tail P v vs i))

-- what holds of the vertices holds of the ends of the edges
pub ends_of : (P : Point → Type 0) (vs : List Point) → All P vs → All (λ e. P e.0 × P e.1) (edges vs)
ends_of P [] h = All-nil _
ends_of P (v ∷ vs) h = zip_both P (v ∷ vs) (vs ++ v ∷ []) h (All-push P vs v (All-tail P v vs h) (All-head P v vs h))

-- an upright or a level line has no side
no_side : (P : Point → Type 0) → ((a b v : Point) → P a → P b → P v → cross a b v ≡ pos 0) → (vs : List Point) → All P vs
    → Any (λ e. Any (λ v. pos 0 <ℤ cross e.0 e.1 v) vs) (edges vs) → ⊥
no_side P flat vs h (k, e, in_edges, is_e, (m, v, in_vs, is_v, side)) =
    let e_in : P e.0 × P e.1 = subst (λ (d : Point × Point). P d.0 × P d.1) is_e (ends_of P vs h k e in_edges) in
    let v_in : P v = subst P is_v (h m v in_vs) in
    not_above (cross e.0 e.1 v) (flat e.0 e.1 v e_in.0 e_in.1 v_in) side
  where
    not_above : (z : ℤ) → z ≡ pos 0 → pos 0 <ℤ z → ⊥
    not_above z e h = omega (arith, ints)

upright : (a b v : Point) → a.x ≡ pos 0 → b.x ≡ pos 0 → v.x ≡ pos 0 → cross a b v ≡ pos 0
upright a b v e f g = rw (e, f, g) (simp ring (omega (arith, linear)))

level : (a b v : Point) → a.y ≡ pos 0 → b.y ≡ pos 0 → v.y ≡ pos 0 → cross a b v ≡ pos 0
level a b v e f g = rw (e, f, g) (simp ring (omega (arith, linear)))

reach_some : (f : Point → ℤ) → ((a b v : Point) → f a ≡ pos 0 → f b ≡ pos 0 → f v ≡ pos 0 → cross a b v ≡ pos 0) → (vs : List Point)
    → least f vs ≡ pos 0 → Any (λ e. Any (λ v. pos 0 <ℤ cross e.0 e.1 v) vs) (edges vs) → pos 0 <ℤ greatest f vs
reach_some f flat vs low wide = by_lt_z (pos 0) (greatest f vs) (λ h. h)
    (λ h. absurd (no_side (λ v. f v ≡ pos 0) flat vs
    (λ k d l. between (least f vs) (f (get_or vs k d)) (greatest f vs) low h (above_least f vs k d l) (below_greatest f vs k d l)) wide))
  where
    between : (a b c : ℤ) → a ≡ pos 0 → c ≤ℤ pos 0 → a ≤ℤ b → b ≤ℤ c → b ≡ pos 0
    between a b c e h i j = omega (arith, ints)

-- how far a footprint reaches: a positive number, at most 2000
pub record Reaches (f : Point → ℤ) (vs : List Point) : Type 0 where
  pub is : greatest f vs ≡ pos (unsigned_abs (greatest f vs))
  pub some : 1 ≤ unsigned_abs (greatest f vs)
  pub few : unsigned_abs (greatest f vs) ≤ 2000

reaches : (f : Point → ℤ) (vs : List Point) → pos 0 <ℤ greatest f vs → greatest f vs ≤ℤ pos 2000 → Reaches f vs
reaches f vs h i = record { is = is (greatest f vs) h; some = some (greatest f vs) h; few = few (greatest f vs) h i }
  where
    is : (z : ℤ) → pos 0 <ℤ z → z ≡ pos (unsigned_abs z)
    is (pos n) h = refl
    is (negsuc n) h = absurd (omega (arith, ints))

    some : (z : ℤ) → pos 0 <ℤ z → 1 ≤ unsigned_abs z
    some (pos n) h = omega (arith, ints)
    some (negsuc n) h = absurd (omega (arith, ints))

    few : (z : ℤ) → pos 0 <ℤ z → z ≤ℤ pos 2000 → unsigned_abs z ≤ 2000
    few (pos n) h i = omega (arith, ints)
    few (negsuc n) h i = absurd (omega (arith, ints))

-- to the right
pub reaches_x : (vs : List Point) → IsShape vs → Reaches (λ p. p.x) vs
reaches_x vs s = reaches (λ p. p.x) vs (reach_some (λ p. p.x) upright vs s.low_x s.wide)
    (greatest_within (λ p. p.x) (pos 2000) vs (let n = s.some in omega arith) (λ k d l. (s.reach k d l).0))

-- and upwards
pub reaches_y : (vs : List Point) → IsShape vs → Reaches (λ p. p.y) vs
reaches_y vs s = reaches (λ p. p.y) vs (reach_some (λ p. p.y) level vs s.low_y s.wide)
    (greatest_within (λ p. p.y) (pos 2000) vs (let n = s.some in omega arith) (λ k d l. (s.reach k d l).1))
