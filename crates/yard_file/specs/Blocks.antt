-- The blocks of a yard file.
use Rattle.std.specs.Prelude.{ℕ, ◌+◌, List, [], ◌∷◌, ◌++◌, Result, Ok}
use Rattle.toml.specs.Data.{Data, Items, no_items, item, Members, as_table}
use Rattle.shape_exact.specs.Yards.{block_names}
use Rattle.shape_exact.specs.declared.block.Block.{Block}
use Rattle.yard_file.specs.Values.{◌>>=◌, of_kind, value_in, number_in, optional_in}
use Rattle.yard_file.specs.Keys.{block_keys, known_keys}
use Rattle.yard_file.specs.Names.{name_in}
use Rattle.yard_file.specs.Footprints.{block_shape}
use Rattle.yard_file.specs.Turns.{turns_in}
use Rattle.yard_file.specs.declared.place.At.TheVariants as places
use Rattle.yard_file.specs.declared.place.Key.TheVariants as keys
use Rattle.yard_file.specs.declared.fault.YardFault.{YardFault}

-- the rules of block i of a file of this version after blocks with these names, in their order, and the block where none is broken
unfoldable pub block_rules : ℕ → ℕ → List (List ℕ) → Members → Result Block YardFault
block_rules version i earlier ms = do
  known ← known_keys (places.Block i) (block_keys version) ms
  name ← name_in (places.Block i) earlier (value_in keys.Name ms)
  shape ← block_shape i (value_in keys.Shape ms)
  turns ← turns_in i (value_in keys.Turns ms)
  duration ← number_in (places.Block i) keys.Duration 1 400 ms
  release ← optional_in (places.Block i) keys.Release 0 399 0 ms
  due ← number_in (places.Block i) keys.Due 0 399 ms
  weight ← optional_in (places.Block i) keys.Weight 0 1000 1 ms
  early ← optional_in (places.Block i) keys.Early 0 1000 0 ms
  Ok (record {
    name = name;
    shape = shape;
    turns = turns;
    duration = duration;
    release = release;
    due = due;
    weight = weight;
    early = early;
  })

-- block i of a value, which has to be a table
abbrev pub block_of : ℕ → ℕ → List (List ℕ) → Data → Result Block YardFault
block_of version i earlier d = of_kind places.Top keys.Block (as_table d) >>= block_rules version i earlier

-- the blocks of the tables from table i on, after those done
abbrev pub blocks_from : ℕ → ℕ → List Block → Items → Result (List Block) YardFault
blocks_from version i done no_items = Ok done
blocks_from version i done (item d ds) =
    block_of version i (block_names done) d >>= (λ block. blocks_from version (i + 1) (done ++ block ∷ []) ds)
