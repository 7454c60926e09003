-- The faults of points in their order.
use Rattle.std.proofs.Common.{◌≡◌, ℕ, ◌<◌, ◌≤◌, Option, Some, None, refl, arith, Bool, true, false, List}
use Rattle.std.specs.Prelude.{nat_lt, ◌&&◌, if◌then◌else◌}
use Rattle.std.specs.List.{All}
use Rattle.std.proofs.lemmas.List.Elements.{All-weaker}
use Rattle.std.specs.Option.{option_map}
use Rattle.std.proofs.lemmas.Bool.Decides.{nat_tests}
use Rattle.shape_exact.specs.declared.point.Point.{Point}
use Rattle.common_lists.specs.Firsts.{where_so}
use Rattle.shape_exact.specs.Reading.{vertex, is_near, is_same, first_equal_to, sign, cross_at, is_other, other_of_edge}
use Rattle.shape_exact.specs.Separation.{IsWithin}

-- ---- what each search looks for
-- the number of a vertex out of range
abbrev pub far_at : List Point → ℕ → Option ℕ
far_at vs i = if is_near (vertex vs i) then None else Some i

-- the number of a later vertex that is equal
abbrev pub equal_at : List Point → ℕ → ℕ → Option ℕ
equal_at vs i j = where_so (nat_lt i j && is_same (vertex vs i) (vertex vs j)) j

-- a vertex with the first later one that is equal
abbrev pub pair_at : List Point → ℕ → Option (ℕ × ℕ)
pair_at vs i = option_map (λ j. (i, j)) (first_equal_to vs i)

-- the sign of a cross product
abbrev pub sign_at : List Point → ℕ → ℕ → Option Bool
sign_at vs e v = sign (cross_at vs e v)

-- the number of a vertex whose cross product has the other sign
abbrev pub other_at : Bool → List Point → ℕ → ℕ → Option ℕ
other_at left vs e v = where_so (is_other left (cross_at vs e v)) v

-- an edge with the first such vertex
abbrev pub sides_at : Bool → List Point → ℕ → Option (ℕ × ℕ)
sides_at left vs e = option_map (λ v. (e, v)) (other_of_edge left vs e)

-- a vertex is no later one than itself or those after it
pub not_after : (vs : List Point) (i j : ℕ) → j ≤ i → equal_at vs i j ≡ None
not_after vs i j l = let no : nat_lt i j ≡ false = grind (arith, nat_tests) in rw no refl

-- another point
pub unlike : (vs : List Point) (i j : ℕ) → is_same (vertex vs i) (vertex vs j) ≡ false → equal_at vs i j ≡ None
unlike vs i j h = by (nat_lt i j)
  where
    by : (b : Bool) → where_so (b && is_same (vertex vs i) (vertex vs j)) j ≡ None
    by true = rw h refl
    by false = refl

-- a later vertex that is equal
pub alike : (vs : List Point) (i j : ℕ) → i < j → is_same (vertex vs i) (vertex vs j) ≡ true → equal_at vs i j ≡ Some j
alike vs i j l h = let yes : nat_lt i j ≡ true = grind (arith, nat_tests) in rw (yes, h) refl

-- ---- bounds
-- a vertex in range, and all in range
pub near_within : (p : Point) → is_near p ≡ true → IsWithin 1000 p
near_within p h = (grind (arith, nat_tests), grind (arith, nat_tests))

-- within 1000 is within 2000
pub within_more : (vs : List Point) → All (IsWithin 1000) vs → All (IsWithin 2000) vs
within_more vs h = All-weaker (IsWithin 1000) (IsWithin 2000) (λ p w. let x = w.0 in let y = w.1 in (omega arith, omega arith)) vs h
