-- The TOML document of a yard file.
use Rattle.std.specs.Prelude.{◌≡◌, ℕ, List, Option, Some, None, Result, Ok, Err, if◌then◌else◌, String}
use Rattle.std.specs.Str.{is_utf8}
use Rattle.std.specs.BTreeMap.{BTreeMap}
use Rattle.std.specs.declared.alloc.Global.{Global}
use Rattle.toml.specs.Data.{Members}
use Rattle.toml.specs.Parse.{parse_document}
use Rattle.toml.specs.View.{table_view}
use Rattle.toml.specs.declared.value.Value.{Value}
use Rattle.yard_file.specs.declared.fault.YardFault.{YardFault}
use Rattle.yard_file.specs.declared.fault.YardFault.TheVariants as faults

-- the table that the bytes spell, where they are text that TOML takes
unfoldable pub document : List ℕ → Option Members
document bytes = if is_utf8 bytes then parse_document bytes else None

-- what a parse returned: the document, or that there is none, or want of memory
abbrev pub IsDocument : Result (BTreeMap (String Global) Value) YardFault → Option Members → Type 0
IsDocument (Ok t) doc = doc ≡ Some (table_view t)
IsDocument (Err faults.Memory) doc = Unit {0}
IsDocument (Err faults.NotToml) doc = doc ≡ None
IsDocument (Err e) doc = ⊥
