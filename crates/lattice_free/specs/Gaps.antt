-- What forbidden columns leave of a row.
use Rattle.std.specs.Prelude.{ℕ, ℤ, pos, ◌≤ℤ◌, ◌<◌, ◌≤◌, nat_lt, max, List, [], ◌∷◌, ◌++◌, if◌then◌else◌}
use Rattle.lattice_free.specs.declared.run.Run.{Run}
use Rattle.lattice_free.specs.declared.forbidden.Forbidden.{Forbidden}

-- the run of a row from a column to another, where there is any
abbrev pub run_between : ℕ → ℕ → ℕ → List Run
run_between row from to = if nat_lt from to then (record { row = row; from = from; to = to }) ∷ [] else []

-- the columns from a first one to the last that are not forbidden, where the forbidden columns ascend
abbrev pub gaps : ℕ → ℕ → ℕ → List Forbidden → List Run
gaps row from columns [] = run_between row from columns
gaps row from columns (s ∷ ss) = run_between row from s.from ++ gaps row (max from s.to) columns ss

-- forbidden columns, at least one, all of the row
abbrev pub FitsWithin : ℕ → Forbidden → Type 0
FitsWithin columns s = (s.from < s.to) × (s.to ≤ columns)

-- the column is not among the forbidden ones
abbrev pub Misses : ℕ → Forbidden → Type 0
Misses k s = s.from ≤ k → k < s.to → ⊥

-- the number lies from low to high
abbrev pub IsBetween : ℤ → ℤ → ℕ → Type 0
IsBetween low high n = (low ≤ℤ pos n) × (pos n ≤ℤ high)
