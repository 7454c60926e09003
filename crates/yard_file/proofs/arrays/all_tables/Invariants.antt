use Rattle.std.proofs.Common.{◌≡◌, drop}
use Rattle.toml.specs.View.{items_view}
use Rattle.yard_file.specs.Arrays.{all_tables}
use Rattle.yard_file.proofs.arrays.all_tables.Given as goal

abbrev pub invariant-loop-value : goal.invariant-loop-value
invariant-loop-value l = all_tables (items_view (drop l.value-index l.items)) ≡ all_tables (items_view l.items)
