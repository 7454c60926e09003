-- Arrays of distinct numbers.
use Rattle.std.specs.Prelude.{ℕ, ◌+◌, Bool, true, ◌&&◌, is_some, List, Option, Some, None, Result, Ok, Err, ℤ, pos, if◌then◌else◌, nat_lt}
use Rattle.toml.specs.Data.{Data, Items, no_items, item, as_integer}
use Rattle.plate_calendar.specs.declared.day_fault.DayFault.{DayFault}
use Rattle.plate_calendar.specs.declared.day_fault.DayFault.TheVariants.{Range, Twice}
use Rattle.shape_exact.specs.Days.{has_day, with_day}
use Rattle.yard_file.specs.Values.{◌>>=◌}

-- every item is an integer
abbrev pub all_integers : Items → Bool
all_integers no_items = true
all_integers (item d ds) = is_some (as_integer d) && all_integers ds

-- the number that an integer below the limit is
abbrev pub below : ℕ → Option ℤ → Option ℕ
below limit (Some (pos n)) = if nat_lt n limit then Some n else None
below limit _ = None

abbrev pub number_below : ℕ → Data → Option ℕ
number_below limit d = below limit (as_integer d)

-- item i after the numbers seen: not below the limit, or equal to an earlier one, or one more
abbrev pub one_more : ℕ → List ℕ → Option ℕ → Result (List ℕ) DayFault
one_more i seen None = Err (Range i)
one_more i seen (Some n) = if has_day n seen then Err (Twice i) else Ok (with_day n seen)

-- the numbers of the items from item i on, after those seen, ascending; or the first item that is wrong
abbrev pub distinct_from : ℕ → ℕ → List ℕ → Items → Result (List ℕ) DayFault
distinct_from limit i seen no_items = Ok seen
distinct_from limit i seen (item d ds) =
    one_more i seen (number_below limit d) >>= (λ more. distinct_from limit (i + 1) more ds)
