-- The turns of a block.
use Rattle.std.specs.Prelude.{ℕ, Bool, true, false, List, [], ◌∷◌, Option, Some, None, Result, Ok, Err, if◌then◌else◌}
use Rattle.std.specs.List.{list_any}
use Rattle.toml.specs.Data.{Data, Items, as_array}
use Rattle.plate_calendar.specs.declared.day_fault.DayFault.{DayFault}
use Rattle.plate_calendar.specs.declared.day_fault.DayFault.TheVariants.{Range, Twice}
use Rattle.shape_exact.specs.Days.{has_day}
use Rattle.yard_file.specs.Values.{◌>>=◌, of_kind}
use Rattle.yard_file.specs.Distinct.{all_integers, distinct_from}
use Rattle.yard_file.specs.declared.place.At.TheVariants as places
use Rattle.yard_file.specs.declared.place.Key.TheVariants as keys
use Rattle.yard_file.specs.declared.fault.YardFault.{YardFault}
use Rattle.yard_file.specs.declared.fault.YardFault.TheVariants as faults

-- the turns whose numbers are listed
abbrev pub listed : List ℕ → List Bool
listed qs = has_day 0 qs ∷ has_day 1 qs ∷ has_day 2 qs ∷ has_day 3 qs ∷ []

-- at least one turn: Turn tells index 0 where there is none
abbrev pub some_turn : ℕ → List Bool → Result (List Bool) YardFault
some_turn i turns = if list_any (λ t. t) turns then Ok turns else Err (faults.Turn i 0)

-- the turns of block i, or the first item that is no number of quarter turns or an earlier one again: Turn
abbrev pub turns_or_fault : ℕ → Result (List ℕ) DayFault → Result (List Bool) YardFault
turns_or_fault i (Ok qs) = some_turn i (listed qs)
turns_or_fault i (Err (Range n)) = Err (faults.Turn i n)
turns_or_fault i (Err (Twice n)) = Err (faults.Turn i n)

-- the turns of an array of integers, each 0 to 3 and none twice: Kind, Turn
abbrev pub turns_items : ℕ → Items → Result (List Bool) YardFault
turns_items i ds =
    if all_integers ds then turns_or_fault i (distinct_from 4 0 [] ds) else Err (faults.Kind (places.Block i) keys.Turns)

-- the turns of block i: that of no quarter turn where the key is absent
abbrev pub turns_in : ℕ → Option Data → Result (List Bool) YardFault
turns_in i None = Ok (true ∷ false ∷ false ∷ false ∷ [])
turns_in i (Some d) = of_kind (places.Block i) keys.Turns (as_array d) >>= turns_items i
