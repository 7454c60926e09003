-- What is wrong with a list of closed days.
use Rattle.std.specs.Prelude.{◌≡◌, ℕ, ◌<◌, ◌≤◌, true, false, List, Some, slice_get, take}
use Rattle.shape_exact.specs.Days.{has_day}
use Rattle.plate_calendar.specs.declared.day_fault.DayFault.{DayFault}
use Rattle.plate_calendar.specs.declared.day_fault.DayFault.TheVariants.{Range, Twice}

-- the entry is below the number of days and equals no earlier one
abbrev pub IsGoodEntry : ℕ → List ℕ → ℕ → Type 0
IsGoodEntry days closed i =
    (d : ℕ) → slice_get closed i ≡ Some d → (d < days) × (has_day d (take i closed) ≡ false)

-- the entry is not below the number of days
abbrev pub IsPast : ℕ → List ℕ → ℕ → Type 0
IsPast days closed i = (d : ℕ) × (slice_get closed i ≡ Some d) × (days ≤ d)

-- the entry equals an earlier one
abbrev pub IsRepeated : List ℕ → ℕ → Type 0
IsRepeated closed i = (d : ℕ) × (slice_get closed i ≡ Some d) × (has_day d (take i closed) ≡ true)

-- the fault is of the first entry that is not good
abbrev pub IsFirstFault : ℕ → List ℕ → DayFault → Type 0
IsFirstFault days closed (Range i) = ((k : ℕ) → k < i → IsGoodEntry days closed k) × IsPast days closed i
IsFirstFault days closed (Twice i) = ((k : ℕ) → k < i → IsGoodEntry days closed k) × IsRepeated closed i
