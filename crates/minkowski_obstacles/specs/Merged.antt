-- Directions in the order of a turn, and sides merged by it.
use Rattle.std.specs.Prelude.{◌≡◌, ℕ, ℤ, pos, ◌-ℤ◌, ◌*ℤ◌, ◌<◌, ◌⊎◌, Bool, true, false, ◌&&◌, ◌||◌, if◌then◌else◌, ◌==◌, nat_lt, int_lt, IsTrue, List, [], ◌∷◌, ◌++◌, All, Any, length, slice_index_or}
use Rattle.std.specs.List.{AllPairs}
use Rattle.std.specs.Ordering.{int_eq}
use Rattle.shape_exact.specs.declared.point.Point.{Point}
use Rattle.minkowski_obstacles.specs.declared.side.Side.{Side}
use Rattle.minkowski_obstacles.specs.Sums.{OneWay}

-- the direction goes up, or straight to the right
abbrev pub is_upper : Point → Bool
is_upper d = int_lt (pos 0) d.y || (int_eq d.y (pos 0) && int_lt (pos 0) d.x)

-- it goes down, or straight to the left
abbrev pub is_lower : Point → Bool
is_lower d = int_lt d.y (pos 0) || (int_eq d.y (pos 0) && int_lt d.x (pos 0))

-- how many whole half turns lie before the direction, counterclockwise from straight right on; 2 where there is none
abbrev pub half_turns : Point → ℕ
half_turns d = if is_upper d then 0 else (if is_lower d then 1 else 2)

-- above 0 where the direction e points to the left of d
abbrev pub leftward : Point → Point → ℤ
leftward d e = d.x *ℤ e.y -ℤ d.y *ℤ e.x

-- counterclockwise from straight right on, the direction d comes strictly before e
abbrev pub comes_before : Point → Point → Bool
comes_before d e =
    nat_lt (half_turns d) (half_turns e) || ((half_turns d == half_turns e) && int_lt (pos 0) (leftward d e))

-- the side has a direction
abbrev pub HasDirection : Side → Type 0
HasDirection s = half_turns s.along < 2

-- the direction of each side comes strictly before that of each later one: merged by direction, and no two of one
abbrev pub IsAscending : List Side → Type 0
IsAscending sides = AllPairs (λ s t. IsTrue (comes_before s.along t.along)) sides

-- the next side is kept after those kept so far, all of which come before it, or one of them has its direction
abbrev pub IsKept : List Side → Side → List Side → Type 0
IsKept kept next now =
    (All (λ s. comes_before s.along next.along ≡ true) kept × (now ≡ kept ++ next ∷ []))
    ⊎ (Any (λ s. OneWay s next) kept × (now ≡ kept))

-- the one list has a side number i, and the other none number j that comes before it
abbrev pub IsNext : List Side → ℕ → List Side → ℕ → Type 0
IsNext one i other j =
    (i < length one)
    × ((d : Side) → j < length other
    → comes_before (slice_index_or other j d).along (slice_index_or one i d).along ≡ false)
