-- Arrays of tables.
use Rattle.std.specs.Prelude.{ℕ, zero, suc, Bool, true, ◌&&◌, is_some, Option, Some, None, Result, Ok, Err, if◌then◌else◌, nat_le, nat_lt}
use Rattle.toml.specs.Data.{Data, Items, no_items, item, Members, as_array, as_table}
use Rattle.yard_file.specs.Values.{◌>>=◌, of_kind, value_in}
use Rattle.yard_file.specs.declared.place.At.TheVariants as places
use Rattle.yard_file.specs.declared.place.Key.{Key}
use Rattle.yard_file.specs.declared.place.Key.TheVariants as keys
use Rattle.yard_file.specs.declared.fault.YardFault.{YardFault}
use Rattle.yard_file.specs.declared.fault.YardFault.TheVariants as faults

-- how many items there are
abbrev pub count : Items → ℕ
count no_items = zero
count (item d ds) = suc (count ds)

-- a count as a refusal tells it: the greatest number of 32 bits stands for all that are greater
abbrev pub told : ℕ → ℕ
told n = if nat_le n 4294967295 then n else 4294967295

-- every item is a table
abbrev pub all_tables : Items → Bool
all_tables no_items = true
all_tables (item d ds) = is_some (as_table d) && all_tables ds

-- the tables of an array under a key of the top table, none where it is absent: Kind
abbrev pub only_tables : Key → Items → Result Items YardFault
only_tables key ds = if all_tables ds then Ok ds else Err (faults.Kind places.Top key)

abbrev pub tables_of : Key → Option Data → Result Items YardFault
tables_of key None = Ok no_items
tables_of key (Some d) = of_kind places.Top key (as_array d) >>= only_tables key

-- the tables of the plates, 1 to 8: Kind, NoPlate, TooManyPlates
abbrev pub few_plates : Items → Result Items YardFault
few_plates ds =
    if nat_lt (count ds) 1 then Err faults.NoPlate
    else if nat_lt 8 (count ds) then Err (faults.TooManyPlates (told (count ds))) else Ok ds

unfoldable pub plate_tables : Members → Result Items YardFault
plate_tables ms = tables_of keys.Plate (value_in keys.Plate ms) >>= few_plates

-- the tables of the blocks, 1 to 32: Kind, NoBlock, TooManyBlocks
abbrev pub few_blocks : Items → Result Items YardFault
few_blocks ds =
    if nat_lt (count ds) 1 then Err faults.NoBlock
    else if nat_lt 32 (count ds) then Err (faults.TooManyBlocks (told (count ds))) else Ok ds

unfoldable pub block_tables : Members → Result Items YardFault
block_tables ms = tables_of keys.Block (value_in keys.Block ms) >>= few_blocks

-- the tables of the fixed pieces, at most 48: Kind, TooManyFixed
abbrev pub few_pieces : Items → Result Items YardFault
few_pieces ds = if nat_lt 48 (count ds) then Err (faults.TooManyFixed (told (count ds))) else Ok ds

unfoldable pub piece_tables : Members → Result Items YardFault
piece_tables ms = tables_of keys.Fixed (value_in keys.Fixed ms) >>= few_pieces
