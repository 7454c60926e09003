-- A footprint and its faults are the same where points that 32 bits do not hold are held as other points out of range.
use Rattle.std.proofs.Common.{◌≡◌, ◌≤◌, ℕ, zero, suc, List, [], ◌∷◌, ◌++◌, length, map, Option, Some, None, true, refl, ap, sym, ◌∙◌, inl, inr, arith, append-nil, append_assoc, false}
use Rattle.std.proofs.lemmas.List.{length-map}
use Rattle.std.specs.Prelude.{ℤ, pos, negsuc, nat_le, unsigned_abs}
use Rattle.std.specs.List.{All}
use Rattle.std.proofs.lemmas.Bool.{cases_Bool, cases_lt}
use Rattle.std.proofs.lemmas.Bool.Decides.{nat_tests}
use Rattle.shape_exact.specs.Separation.{IsWithin}
use Rattle.common_lists.specs.Firsts.{first_below}
use Rattle.shape_exact.specs.Reading.{first_far, is_near, shape_of, vertex}
use Rattle.shape_exact.specs.declared.point.Point.{Point}
use Rattle.shape_exact.proofs.ReadLaws.{far_at}
use Rattle.shape_exact.proofs.FaultLaws.{are_near, far, too_few, too_many}
use Rattle.toml.specs.Data.{Items, no_items, item}
use Rattle.yard_file.specs.Footprints.{points_of}
use Rattle.yard_file.specs.Held.{held, held_at, held_from, held_point}

-- ---- the points of the items, each as it is held
held_list : (done : List Point) (ds : Items) → held_from done ds ≡ done ++ map held_point (points_of ds)
held_list done no_items = simp append-nil
held_list done (item d ds) = held_list (done ++ held_at d ∷ []) ds ∙ append_assoc done (held_at d ∷ []) (map held_point (points_of ds))

-- ---- a point is in range where it is so as it is held
near_int : (z : ℤ) → nat_le (unsigned_abs (held z)) 1000 ≡ nat_le (unsigned_abs z) 1000
near_int (pos n) = elim (cases_Bool (nat_le n 2147483647)) [
  | inl fits ↦ rw fits refl
  | inr past ↦ let big : nat_le n 1000 ≡ false = grind (arith, nat_tests) in rw (past, big) refl
]
near_int (negsuc n) = elim (cases_Bool (nat_le n 2147483647)) [
  | inl fits ↦ rw fits refl
  | inr past ↦ let big : nat_le (suc n) 1000 ≡ false = grind (arith, nat_tests) in rw (past, big) refl
]

near_held : (p : Point) → is_near (held_point p) ≡ is_near p
near_held p = rw (near_int p.x, near_int p.y) refl

vertex_held : (vs : List Point) (i : ℕ) → vertex (map held_point vs) i ≡ held_point (vertex vs i)
vertex_held [] i = refl
vertex_held (v ∷ vs) zero = refl
vertex_held (v ∷ vs) (suc i) = vertex_held vs i

far_held : (vs : List Point) (i : ℕ) → far_at (map held_point vs) i ≡ far_at vs i
far_held vs i = rw (vertex_held vs i, near_held (vertex vs i)) refl

below_same : {A : Type 0} (n : ℕ) (f g : ℕ → Option A) → ((i : ℕ) → f i ≡ g i) → first_below n f ≡ first_below n g
below_same zero f g h = refl
below_same (suc n) f g h = rw (below_same n f g h, h n) refl

first_far_held : (vs : List Point) → first_far (map held_point vs) ≡ first_far vs
first_far_held vs =
    rw (length-map vs held_point) (below_same (length vs) (far_at (map held_point vs)) (far_at vs) (far_held vs))

-- ---- points in range are held as they are
same_int : (z : ℤ) → unsigned_abs z ≤ 1000 → held z ≡ z
same_int (pos n) h = let fits : nat_le n 2147483647 ≡ true = grind (arith, nat_tests) in rw fits refl
same_int (negsuc n) h = let fits : nat_le n 2147483647 ≡ true = grind (arith, nat_tests) in rw fits refl

same_point : (p : Point) → IsWithin 1000 p → held_point p ≡ p
same_point p h = rw (same_int p.x h.0, same_int p.y h.1) refl

same_points : (vs : List Point) → All (IsWithin 1000) vs → map held_point vs ≡ vs
same_points [] h = refl
same_points (v ∷ vs) h =
    ap (λ p. p ∷ map held_point vs) (same_point v (h 0 v (omega arith)))
    ∙ ap (λ ps. v ∷ ps) (same_points vs (λ k d l. h (suc k) d (omega arith)))

-- ---- the footprint
held_far : (vs : List Point) (i : ℕ) → first_far vs ≡ Some i → shape_of (map held_point vs) ≡ shape_of vs
held_far vs i e =
    let ws : List Point = map held_point vs in
    let long : length ws ≡ length vs = length-map vs held_point in
    elim (cases_lt (length vs) 3) [
      | inl few ↦ too_few ws (omega (arith, long)) ∙ sym (too_few vs few)
      | inr some ↦ elim (cases_lt 16 (length vs)) [
        | inl many ↦ too_many ws (omega (arith, long)) ∙ sym (too_many vs many)
        | inr most ↦
            far ws i (omega (arith, long)) (omega (arith, long)) (first_far_held vs ∙ e)
            ∙ sym (far vs i (omega arith) (omega arith) e)
      ]
    ]

held_same : (vs : List Point) → shape_of (map held_point vs) ≡ shape_of vs
held_same vs = by (first_far vs) refl
  where
    by : (o : Option ℕ) → first_far vs ≡ o → shape_of (map held_point vs) ≡ shape_of vs
    by None e = ap shape_of (same_points vs (are_near vs e))
    by (Some i) e = held_far vs i e

pub held_shape : (ds : Items) → shape_of (held_from [] ds) ≡ shape_of (points_of ds)
held_shape ds = ap shape_of (held_list [] ds) ∙ held_same (points_of ds)
