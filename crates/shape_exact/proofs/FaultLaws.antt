-- The faults of points in their order, and what points without a fault keep.
use Rattle.std.proofs.Common.{◌≡◌, ℕ, zero, suc, ◌<◌, ◌≤◌, List, length, refl, sym, ◌∙◌, subst, arith, inl, inr, true, false, Bool, Some, None, Ok, Err}
use Rattle.std.specs.Prelude.{ℤ, pos, negsuc, ◌≤ℤ◌, ◌<ℤ◌, nat_lt, ◌&&◌, if◌then◌else◌}
use Rattle.std.proofs.lemmas.Bool.{cases_lt, false≢true}
use Rattle.std.proofs.lemmas.Bool.Decides.{nat_tests}
use Rattle.std.proofs.lemmas.Int.{ints}
use Rattle.std.proofs.lemmas.Option.{none-some, same_Some}
use Rattle.std.proofs.lemmas.Cmp.{int_eq_equiv}
use Rattle.std.specs.List.{All}
use Rattle.std.proofs.lemmas.List.Elements.{All-from_get_or}
use Rattle.common_lists.proofs.ListLaws.{map_none}
use Rattle.shape_exact.specs.declared.point.Point.{Point}
use Rattle.shape_exact.specs.declared.shape.ShapeFault.TheVariants.{TooFew, TooMany, Range, Equal, NotConvex, Flat}
use Rattle.shape_exact.specs.Shapes.{IsShape, shifted, origin}
use Rattle.common_lists.specs.Firsts.{where_so}
use Rattle.shape_exact.specs.Reading.{vertex, cross_at, is_near, is_same, first_far, first_equal, first_equal_to, sign, sign_of_edge, inner_sign, is_other, other_of_edge, first_other, leftwards, shape_of}
use Rattle.common_lists.proofs.FirstLaws.{none_at, some_at}
use Rattle.shape_exact.proofs.ReadLaws.{far_at, equal_at, pair_at, sign_at, other_at, sides_at, near_within}
use Rattle.shape_exact.specs.Separation.{IsWithin}
use Rattle.shape_exact.proofs.OutlineLaws.{IsOutline, outline-backwards, shape-shifted}

not_few : (vs : List Point) → 3 ≤ length vs → nat_lt (length vs) 3 ≡ false
not_few vs h = grind (arith, nat_tests)

not_many : (vs : List Point) → length vs ≤ 16 → nat_lt 16 (length vs) ≡ false
not_many vs h = grind (arith, nat_tests)

-- ---- each fault where it is the first
-- fewer than 3 points
pub too_few : (vs : List Point) → length vs < 3 → shape_of vs ≡ Err TooFew
unfolding shape_of
too_few vs h = let few : nat_lt (length vs) 3 ≡ true = grind (arith, nat_tests) in rw few refl

-- more than 16 points
pub too_many : (vs : List Point) → 16 < length vs → shape_of vs ≡ Err TooMany
unfolding shape_of
too_many vs h = let many : nat_lt 16 (length vs) ≡ true = grind (arith, nat_tests) in rw (not_few vs (omega arith), many) refl

-- a vertex out of range
pub far : (vs : List Point) (i : ℕ) → 3 ≤ length vs → length vs ≤ 16 → first_far vs ≡ Some i → shape_of vs ≡ Err (Range i)
unfolding shape_of
far vs i some few e = rw (not_few vs some, not_many vs few, e) refl

-- an equal pair
pub equal : (vs : List Point) (i j : ℕ) → 3 ≤ length vs → length vs ≤ 16 → first_far vs ≡ None → first_equal vs ≡ Some (i, j) → shape_of vs ≡ Err (Equal i j)
unfolding shape_of
equal vs i j some few near e = rw (not_few vs some, not_many vs few, near, e) refl

-- no cross product that is not 0
pub flat : (vs : List Point) → 3 ≤ length vs → length vs ≤ 16 → first_far vs ≡ None → first_equal vs ≡ None → inner_sign vs ≡ None → shape_of vs ≡ Err Flat
unfolding shape_of
flat vs some few near once e = rw (not_few vs some, not_many vs few, near, once, e) refl

-- a cross product of the other sign
pub other : (vs : List Point) (left : Bool) (i j : ℕ) → 3 ≤ length vs → length vs ≤ 16 → first_far vs ≡ None → first_equal vs ≡ None
    → inner_sign vs ≡ Some left → first_other left vs ≡ Some (i, j) → shape_of vs ≡ Err (NotConvex i j)
unfolding shape_of
other vs left i j some few near once inner e = rw (not_few vs some, not_many vs few, near, once, inner, e) refl

-- no fault
pub good : (vs : List Point) (left : Bool) → 3 ≤ length vs → length vs ≤ 16 → first_far vs ≡ None → first_equal vs ≡ None
    → inner_sign vs ≡ Some left → first_other left vs ≡ None → shape_of vs ≡ Ok (shifted (leftwards (Some left) vs))
unfolding shape_of
good vs left some few near once inner e = rw (not_few vs some, not_many vs few, near, once, inner, e) refl

-- ---- what holds where there is no fault
all_near : (vs : List Point) → first_far vs ≡ None → (i : ℕ) → i < length vs → is_near (vertex vs i) ≡ true
all_near vs e i l = by (is_near (vertex vs i)) (none_at (length vs) (far_at vs) e i l)
  where
    by : (b : Bool) → (if b then None else Some i) ≡ None → b ≡ true
    by true h = refl
    by false h = absurd (none-some i (sym h))

-- all are in range
pub are_near : (vs : List Point) → first_far vs ≡ None → All (IsWithin 1000) vs
are_near vs e = All-from_get_or (IsWithin 1000) vs origin (λ i l. near_within (vertex vs i) (all_near vs e i l))

nothing : {A : Type 0} (b : Bool) (x : A) → where_so b x ≡ None → b ≡ false
nothing true x h = absurd (none-some x (sym h))
nothing false x h = refl

same_self : (p : Point) → is_same p p ≡ true
same_self p = rw (int_eq_equiv.refl p.x, int_eq_equiv.refl p.y) refl

unlike : (vs : List Point) → first_equal vs ≡ None → (i j : ℕ) → i < j → j < length vs → vertex vs i ≡ vertex vs j → ⊥
unlike vs e i j l m same =
    let row = map_none (λ k. (i, k)) (first_equal_to vs i) (none_at (length vs) (pair_at vs) e i (omega arith)) in
    let yes : nat_lt i j ≡ true = grind (arith, nat_tests) in
    let no = nothing (nat_lt i j && is_same (vertex vs i) (vertex vs j)) j (none_at (length vs) (equal_at vs i) row j m) in
    let apart : is_same (vertex vs i) (vertex vs j) ≡ false = subst (λ b. (b && is_same (vertex vs i) (vertex vs j)) ≡ false) yes no in
    let alike : is_same (vertex vs i) (vertex vs j) ≡ true = subst (λ (p : Point). is_same (vertex vs i) p ≡ true) same (same_self (vertex vs i)) in
    false≢true (sym apart ∙ alike)

-- each point is the vertex of one number
pub once : (vs : List Point) → first_equal vs ≡ None → (i j : ℕ) → i < length vs → j < length vs → vertex vs i ≡ vertex vs j → i ≡ j
once vs e i j l m same = elim (cases_lt i j) [
  | inl less ↦ absurd (unlike vs e i j less m same)
  | inr more ↦ elim (cases_lt j i) [
    | inl less ↦ absurd (unlike vs e j i less l (sym same))
    | inr equal ↦ omega arith
  ]
]

no_other : (vs : List Point) (left : Bool) → first_other left vs ≡ None → (e v : ℕ) → e < length vs → v < length vs → is_other left (cross_at vs e v) ≡ false
no_other vs left h e v l m =
    let row = map_none (λ k. (e, k)) (other_of_edge left vs e) (none_at (length vs) (sides_at left vs) h e l) in
    nothing (is_other left (cross_at vs e v)) v (none_at (length vs) (other_at left vs e) row v m)

inner : (vs : List Point) (left : Bool) → inner_sign vs ≡ Some left → (e : ℕ) × (v : ℕ) × (e < length vs) × (v < length vs) × (sign (cross_at vs e v) ≡ Some left)
inner vs left h =
    let (e, l, row) = some_at (length vs) (sign_of_edge vs) left h in
    let (v, m, at) = some_at (length vs) (sign_at vs e) left row in
    (e, v, l, m, at)

not_below : (z : ℤ) → is_other true z ≡ false → pos 0 ≤ℤ z
not_below (pos n) h = omega (arith, ints)
not_below (negsuc n) h = absurd (false≢true (sym h))

not_above : (z : ℤ) → is_other false z ≡ false → z ≤ℤ pos 0
not_above (pos zero) h = omega (arith, ints)
not_above (pos (suc n)) h = let yes : is_other false (pos (suc n)) ≡ true = grind (arith, nat_tests) in absurd (false≢true (sym h ∙ yes))
not_above (negsuc n) h = omega (arith, ints)

above : (z : ℤ) → sign z ≡ Some true → pos 0 <ℤ z
above (pos zero) h = absurd (none-some true h)
above (pos (suc n)) h = omega (arith, ints)
above (negsuc n) h = absurd (false≢true (same_Some false true h))

below : (z : ℤ) → sign z ≡ Some false → z <ℤ pos 0
below (pos zero) h = absurd (none-some false h)
below (pos (suc n)) h = absurd (false≢true (sym (same_Some true false h)))
below (negsuc n) h = omega (arith, ints)

-- the points walked counterclockwise are an outline
pub outline : (vs : List Point) (left : Bool) → 3 ≤ length vs → length vs ≤ 16 → first_far vs ≡ None → first_equal vs ≡ None
    → inner_sign vs ≡ Some left → first_other left vs ≡ None → IsOutline (leftwards (Some left) vs)
outline vs true some few near alone i o =
    let (e, v, l, m, at) = inner vs true i in
    record {
      some = some;
      few = few;
      near = are_near vs near;
      once = once vs alone;
      convex = λ d w h k. not_below (cross_at vs d w) (no_other vs true o d w h k);
      wide = (e, v, l, m, above (cross_at vs e v) at);
    }
outline vs false some few near alone i o =
    let (e, v, l, m, at) = inner vs false i in
    outline-backwards vs some few
    (are_near vs near) (once vs alone)
    (λ d w h k. not_above (cross_at vs d w) (no_other vs false o d w h k))
    (e, v, l, m, below (cross_at vs e v) at)

-- and give a footprint
pub footprint : (vs : List Point) (left : Bool) → 3 ≤ length vs → length vs ≤ 16 → first_far vs ≡ None → first_equal vs ≡ None
    → inner_sign vs ≡ Some left → first_other left vs ≡ None → IsShape (shifted (leftwards (Some left) vs))
footprint vs left some few near alone i o = shape-shifted (leftwards (Some left) vs) (outline vs left some few near alone i o)
