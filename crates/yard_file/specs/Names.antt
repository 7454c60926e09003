-- The name of a plate or a block.
use Rattle.std.specs.Prelude.{ℕ, List, Option, Some, None, Result, Ok, Err, if◌then◌else◌}
use Rattle.toml.specs.Data.{Data, as_str}
use Rattle.shape_exact.specs.Names.{is_name}
use Rattle.shape_exact.specs.Yards.{has_name}
use Rattle.yard_file.specs.Values.{◌>>=◌, of_kind}
use Rattle.yard_file.specs.declared.place.At.{At}
use Rattle.yard_file.specs.declared.place.Key.TheVariants as keys
use Rattle.yard_file.specs.declared.fault.YardFault.{YardFault}
use Rattle.yard_file.specs.declared.fault.YardFault.TheVariants as faults

-- the bytes, where they are a name that is none of the earlier ones: BadName, NameTwice
abbrev pub new_name : At → List (List ℕ) → List ℕ → Result (List ℕ) YardFault
new_name at earlier bytes =
    if is_name bytes then (if has_name earlier bytes then Err (faults.NameTwice at) else Ok bytes) else Err (faults.BadName at)

-- the name of a table after others with these names: Missing, Kind, BadName, NameTwice
abbrev pub name_in : At → List (List ℕ) → Option Data → Result (List ℕ) YardFault
name_in at earlier None = Err (faults.Missing at keys.Name)
name_in at earlier (Some d) = of_kind at keys.Name (as_str d) >>= new_name at earlier
