-- The fixed pieces of a yard file.
use Rattle.std.specs.Prelude.{ℕ, ◌+◌, Bool, false, ◌&&◌, nat_le, nat_lt, List, [], ◌∷◌, ◌++◌, Option, Some, None, Result, Ok, Err, if◌then◌else◌, position, slice_get}
use Rattle.std.specs.Str.{bytes_eq}
use Rattle.toml.specs.Data.{Data, Items, no_items, item, Members, as_str, as_table}
use Rattle.shape_exact.specs.Shapes.{reach_x, reach_y, turned}
use Rattle.shape_exact.specs.declared.fixed.Fixed.{Fixed}
use Rattle.shape_exact.specs.declared.plate.Plate.{Plate}
use Rattle.yard_file.specs.Clashes.{first_clash}
use Rattle.yard_file.specs.Values.{◌>>=◌, of_kind, value_in, number_in, optional_in}
use Rattle.yard_file.specs.Keys.{known_keys, piece_keys}
use Rattle.yard_file.specs.Footprints.{piece_shape}
use Rattle.yard_file.specs.declared.place.At.TheVariants as places
use Rattle.yard_file.specs.declared.place.Key.TheVariants as keys
use Rattle.yard_file.specs.declared.fault.YardFault.{YardFault}
use Rattle.yard_file.specs.declared.fault.YardFault.TheVariants as faults

-- a number that there has to be: FixedPlate
abbrev pub some_plate : ℕ → Option ℕ → Result ℕ YardFault
some_plate i None = Err (faults.FixedPlate i)
some_plate i (Some number) = Ok number

-- the number of the plate that has this name
abbrev pub plate_named : List Plate → ℕ → List ℕ → Result ℕ YardFault
plate_named plates i name = some_plate i (position (λ p. bytes_eq p.name name) plates)

-- the number of the plate of piece i: Missing, Kind, FixedPlate
abbrev pub plate_in : List Plate → ℕ → Option Data → Result ℕ YardFault
plate_in plates i None = Err (faults.Missing (places.Fixed i) keys.Plate)
plate_in plates i (Some d) = of_kind (places.Fixed i) keys.Plate (as_str d) >>= plate_named plates i

-- the rules of the keys of piece i, in their order, and the piece where none is broken
unfoldable pub piece_of_keys : List Plate → ℕ → Members → Result Fixed YardFault
piece_of_keys plates i ms = do
  known ← known_keys (places.Fixed i) piece_keys ms
  plate ← plate_in plates i (value_in keys.Plate ms)
  shape ← piece_shape i (value_in keys.Shape ms)
  turn ← optional_in (places.Fixed i) keys.Turn 0 3 0 ms
  x ← number_in (places.Fixed i) keys.X 0 400 ms
  y ← number_in (places.Fixed i) keys.Y 0 400 ms
  from ← number_in (places.Fixed i) keys.From 0 399 ms
  to ← number_in (places.Fixed i) keys.To 0 399 ms
  Ok (record { plate = plate; shape = turned turn shape; x = x; y = y; from = from; to = to })

-- the piece's days are in order and below the number of days: FixedDays
abbrev pub in_days : ℕ → ℕ → Fixed → Result Fixed YardFault
in_days days i f = if nat_le f.from f.to && nat_lt f.to days then Ok f else Err (faults.FixedDays i)

-- the piece lies in the closed rectangle of the plate
abbrev pub is_in_plate : Fixed → Option Plate → Bool
is_in_plate f None = false
is_in_plate f (Some p) = nat_le (f.x + reach_x f.shape) p.width && nat_le (f.y + reach_y f.shape) p.height

-- the piece lies in the closed rectangle of its plate: FixedOutside
abbrev pub in_plate : List Plate → ℕ → Fixed → Result Fixed YardFault
in_plate plates i f = if is_in_plate f (slice_get plates f.plate) then Ok f else Err (faults.FixedOutside i)

-- the piece is apart from the earlier ones: FixedClash tells the first that it is not apart from
abbrev pub no_clash : ℕ → Fixed → Option ℕ → Result Fixed YardFault
no_clash i f None = Ok f
no_clash i f (Some j) = Err (faults.FixedClash j i)

-- the rules of piece i after these pieces, in their order, and the piece where none is broken
unfoldable pub piece_rules : ℕ → List Plate → ℕ → List Fixed → Members → Result Fixed YardFault
piece_rules days plates i earlier ms = do
  piece ← piece_of_keys plates i ms
  in_days ← in_days days i piece
  in_plate ← in_plate plates i piece
  no_clash i piece (first_clash 0 earlier piece)

-- piece i of a value, which has to be a table
abbrev pub piece_of : ℕ → List Plate → ℕ → List Fixed → Data → Result Fixed YardFault
piece_of days plates i earlier d = of_kind places.Top keys.Fixed (as_table d) >>= piece_rules days plates i earlier

-- the pieces of the tables from table i on, after those done
abbrev pub pieces_from : ℕ → List Plate → ℕ → List Fixed → Items → Result (List Fixed) YardFault
pieces_from days plates i done no_items = Ok done
pieces_from days plates i done (item d ds) =
    piece_of days plates i done d >>= (λ piece. pieces_from days plates (i + 1) (done ++ piece ∷ []) ds)
