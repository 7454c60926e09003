-- The plates of a yard file.
use Rattle.std.specs.Prelude.{ℕ, ◌+◌, List, [], ◌∷◌, ◌++◌, Result, Ok}
use Rattle.toml.specs.Data.{Data, Items, no_items, item, Members, as_table}
use Rattle.shape_exact.specs.Yards.{plate_names}
use Rattle.shape_exact.specs.declared.plate.Plate.{Plate}
use Rattle.yard_file.specs.Values.{◌>>=◌, of_kind, value_in, number_in, optional_in}
use Rattle.yard_file.specs.Keys.{known_keys, plate_keys}
use Rattle.yard_file.specs.Names.{name_in}
use Rattle.yard_file.specs.Closed.{closed_in}
use Rattle.yard_file.specs.declared.place.At.TheVariants as places
use Rattle.yard_file.specs.declared.place.Key.TheVariants as keys
use Rattle.yard_file.specs.declared.fault.YardFault.{YardFault}

-- the rules of plate i after plates with these names, in their order, and the plate where none is broken
unfoldable pub plate_rules : ℕ → ℕ → List (List ℕ) → Members → Result Plate YardFault
plate_rules days i earlier ms = do
  known ← known_keys (places.Plate i) plate_keys ms
  name ← name_in (places.Plate i) earlier (value_in keys.Name ms)
  width ← number_in (places.Plate i) keys.Width 1 400 ms
  height ← number_in (places.Plate i) keys.Height 1 400 ms
  pitch ← optional_in (places.Plate i) keys.Pitch 1 100 1 ms
  closed ← closed_in days i (value_in keys.Closed ms)
  Ok (record { name = name; width = width; height = height; pitch = pitch; closed = closed })

-- plate i of a value, which has to be a table
abbrev pub plate_of : ℕ → ℕ → List (List ℕ) → Data → Result Plate YardFault
plate_of days i earlier d = of_kind places.Top keys.Plate (as_table d) >>= plate_rules days i earlier

-- the plates of the tables from table i on, after those done
abbrev pub plates_from : ℕ → ℕ → List Plate → Items → Result (List Plate) YardFault
plates_from days i done no_items = Ok done
plates_from days i done (item d ds) =
    plate_of days i (plate_names done) d >>= (λ plate. plates_from days (i + 1) (done ++ plate ∷ []) ds)
