-- The closed days of a plate.
use Rattle.std.specs.Prelude.{ℕ, List, [], Option, Some, None, Result, Ok, Err, if◌then◌else◌}
use Rattle.toml.specs.Data.{Data, Items, as_array}
use Rattle.plate_calendar.specs.declared.day_fault.DayFault.{DayFault}
use Rattle.yard_file.specs.Values.{◌>>=◌, of_kind}
use Rattle.yard_file.specs.Distinct.{all_integers, distinct_from}
use Rattle.yard_file.specs.declared.place.At.TheVariants as places
use Rattle.yard_file.specs.declared.place.Key.TheVariants as keys
use Rattle.yard_file.specs.declared.fault.YardFault.{YardFault}
use Rattle.yard_file.specs.declared.fault.YardFault.TheVariants as faults

-- the days of plate i, or what is wrong with them
abbrev pub days_or_fault : ℕ → Result (List ℕ) DayFault → Result (List ℕ) YardFault
days_or_fault i (Ok days) = Ok days
days_or_fault i (Err fault) = Err (faults.Day i fault)

-- the days of an array of integers, each below the number of days and none twice: Kind, Day
abbrev pub closed_items : ℕ → ℕ → Items → Result (List ℕ) YardFault
closed_items days i ds =
    if all_integers ds then days_or_fault i (distinct_from days 0 [] ds) else Err (faults.Kind (places.Plate i) keys.Closed)

-- the closed days of plate i: none where the key is absent
abbrev pub closed_in : ℕ → ℕ → Option Data → Result (List ℕ) YardFault
closed_in days i None = Ok []
closed_in days i (Some d) = of_kind (places.Plate i) keys.Closed (as_array d) >>= closed_items days i
