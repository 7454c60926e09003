-- What the bytes of a yard file are read as: the first broken rule, or the yard where none is broken.
use Rattle.std.specs.Prelude.{◌≡◌, ℕ, List, [], length, Option, Some, None, Result, Ok, Err, ℤ, pos, negsuc, if◌then◌else◌, nat_lt, nat_le, ◌&&◌}
use Rattle.toml.specs.Data.{Members}
use Rattle.shape_exact.specs.Yards.{PlainYard}
use Rattle.yard_file.specs.Values.{◌>>=◌, value_in, integer_of, number_in}
use Rattle.yard_file.specs.Keys.{known_keys, top_keys}
use Rattle.yard_file.specs.Arrays.{plate_tables, block_tables, piece_tables}
use Rattle.yard_file.specs.Plates.{plates_from}
use Rattle.yard_file.specs.Blocks.{blocks_from}
use Rattle.yard_file.specs.Pieces.{pieces_from}
use Rattle.yard_file.specs.Sizes.{first_too_many}
use Rattle.yard_file.specs.Documents.{document}
use Rattle.yard_file.specs.declared.place.At.TheVariants as places
use Rattle.yard_file.specs.declared.place.Key.TheVariants as keys
use Rattle.yard_file.specs.declared.fault.YardFault.{YardFault}
use Rattle.yard_file.specs.declared.fault.YardFault.TheVariants as faults

-- the version of the file, 1 to 3: Missing, Kind, Version
abbrev pub known_version : ℤ → Result ℕ YardFault
known_version (pos n) = if nat_le 1 n && nat_le n 3 then Ok n else Err (faults.Version (pos n))
known_version (negsuc n) = Err (faults.Version (negsuc n))

unfoldable pub version_in : Members → Result ℕ YardFault
version_in ms = integer_of places.Top keys.Version (value_in keys.Version ms) >>= known_version

-- the yard, unless some block has too many placements: TooManyPlacements
abbrev pub unless : Option YardFault → PlainYard → Result PlainYard YardFault
unless None yard = Ok yard
unless (Some fault) yard = Err fault

abbrev pub sized : PlainYard → Result PlainYard YardFault
sized yard = unless (first_too_many yard) yard

-- the rules of a document, in their order, and its yard where none is broken
unfoldable pub rules : Members → Result PlainYard YardFault
rules ms = do
  version ← version_in ms
  known ← known_keys places.Top (top_keys version) ms
  days ← number_in places.Top keys.Days 1 400 ms
  plate_tables ← plate_tables ms
  block_tables ← block_tables ms
  piece_tables ← piece_tables ms
  plates ← plates_from days 0 [] plate_tables
  blocks ← blocks_from version 0 [] block_tables
  fixed ← pieces_from days plates 0 [] piece_tables
  sized (record { days = days; plates = plates; blocks = blocks; fixed = fixed })

-- the yard of a document, where there is one: NotToml
abbrev pub document_yard : Option Members → Result PlainYard YardFault
document_yard None = Err faults.NotToml
document_yard (Some ms) = rules ms

-- the most bytes that a file may have
abbrev pub most_bytes : ℕ
most_bytes = 1048576

-- the yard of a file, or the first rule that it breaks: TooLong comes before all others
unfoldable pub yard_of : List ℕ → Result PlainYard YardFault
yard_of bytes = if nat_lt most_bytes (length bytes) then Err faults.TooLong else document_yard (document bytes)

-- the answer is the wanted one, unless memory ran out
abbrev pub Gives : {X : Type 0} → Result X YardFault → Result X YardFault → Type 0
Gives (Ok x) want = want ≡ Ok x
Gives (Err faults.Memory) want = Unit {0}
Gives (Err e) want = want ≡ Err e
