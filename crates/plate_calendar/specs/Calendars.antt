-- Open days, and the day on which work ends.
use Rattle.std.specs.Prelude.{ℕ, ◌-◌, List, [], ◌∷◌, Option, None, not, filter, nat_le, slice_get, count_by, ◌&&◌, if◌then◌else◌}
use Rattle.shape_exact.specs.Days.{has_day}
use Rattle.common_lists.specs.Each.{each, when}

-- the days below a number that are not closed, ascending
abbrev pub open_days : ℕ → List ℕ → List ℕ
open_days days closed = each days (λ d. when (not (has_day d closed)) (d ∷ []))

-- the d-th open day from the start on, where the start is open and there are so many
abbrev pub end_of : List ℕ → ℕ → ℕ → Option ℕ
end_of opens start duration =
    if has_day start opens then slice_get (filter (λ d. nat_le start d) opens) (duration - 1) else None

-- how many open days lie in a window, both ends included
abbrev pub open_between : List ℕ → ℕ → ℕ → ℕ
open_between opens first last = count_by (λ d. nat_le first d && nat_le d last) opens
