use Rattle.std.proofs.Common.{◌≡◌, map, string_bytes}
use Rattle.yard_file.specs.Keys.{is_known, first_unknown, keys_in}
use Rattle.toml.specs.View.{table_view}
use Rattle.yard_file.proofs.keys.first_unknown.Given as goal

abbrev pub invariant-loop-key : goal.invariant-loop-key
invariant-loop-key l =
    (goal.iterator-loop-key).can_next l.key-iterator × (goal.iterator-loop-key).is_finite l.key-iterator
    × (first_unknown (is_known l.keys) (map string_bytes l.key-iterator) ≡ first_unknown (is_known l.keys) (keys_in (table_view l.table)))
