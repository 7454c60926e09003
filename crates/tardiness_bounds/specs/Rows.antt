-- The rows of obstacles, by offset.
use Rattle.std.specs.Prelude.{◌≡◌, ℕ, ℤ, pos, negsuc, ◌-ℤ◌, ◌≤ℤ◌, ◌+◌, ◌*◌, ◌/◌, ◌%◌, ◌≤◌, List, length, Option, Some, None, slice_get}
use Rattle.minkowski_obstacles.specs.Pairs.{IsEmptyRow, IsRow, Pair}

-- the row of a pair at an offset: none where it is empty, else its ends
abbrev pub IsRowOf : Pair → ℤ → Option (ℤ × ℤ) → Type 0
IsRowOf pair y None = IsEmptyRow pair y
IsRowOf pair y (Some r) = IsRow pair y r.0 r.1 × (negsuc 1999 ≤ℤ r.0) × (r.1 ≤ℤ pos 2000)

-- how many rows are kept of a pair, where they are kept so far down and so far up
abbrev pub span_of : ℕ → ℕ
span_of reach = reach * 2 + 1

-- each row is the one of its pair at its offset: of one pair after another, from the lowest to the highest
abbrev pub HaveRows : List Pair → ℕ → List (Option (ℤ × ℤ)) → Type 0
HaveRows pairs reach rows =
    (k : ℕ) (pair : Pair) (row : Option (ℤ × ℤ)) → slice_get pairs (k / span_of reach) ≡ Some pair → slice_get rows k ≡ Some row
    → IsRowOf pair (pos (k % span_of reach) -ℤ pos reach) row

-- the rows of all pairs
pub record AreRows (pairs : List Pair) (reach : ℕ) (rows : List (Option (ℤ × ℤ))) : Type 0 where
  pub small : reach ≤ 400
  pub len : length rows ≡ length pairs * span_of reach
  pub each : HaveRows pairs reach rows
