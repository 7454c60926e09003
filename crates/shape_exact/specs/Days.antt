-- Ascending lists of days.
use Rattle.std.specs.List.{list_any}
use Rattle.std.specs.Prelude.{ℕ, suc, Bool, true, ◌&&◌, ◌==◌, nat_lt, nat_le, List, [], ◌∷◌, if◌then◌else◌}

-- the day stands in the list
abbrev pub has_day : ℕ → List ℕ → Bool
has_day d ds = list_any (λ e. e == d) ds

-- how many of the first days come before the day
abbrev pub place_of : ℕ → List ℕ → ℕ
place_of d [] = 0
place_of d (e ∷ es) = if nat_lt e d then suc (place_of d es) else 0

-- the days with the day put before the first that is not less
abbrev pub insert_day : ℕ → List ℕ → List ℕ
insert_day d [] = d ∷ []
insert_day d (e ∷ es) = if nat_lt e d then e ∷ insert_day d es else d ∷ e ∷ es

-- the days with one more, once
abbrev pub with_day : ℕ → List ℕ → List ℕ
with_day d ds = if has_day d ds then ds else insert_day d ds

-- the days strictly ascend from a least one on, and are below the high one
abbrev pub are_days : ℕ → ℕ → List ℕ → Bool
are_days low high [] = true
are_days low high (d ∷ ds) = (nat_le low d && nat_lt d high) && are_days (suc d) high ds
