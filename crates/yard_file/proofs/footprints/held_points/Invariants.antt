use Rattle.std.proofs.Common.{◌≡◌, drop, length, []}
use Rattle.toml.specs.View.{items_view}
use Rattle.yard_file.specs.Held.{held_from}
use Rattle.yard_file.proofs.footprints.held_points.Given as goal

abbrev pub invariant-loop-value : goal.invariant-loop-value
invariant-loop-value l =
    (length l.points.items ≡ l.value-index)
    × (held_from l.points.items (items_view (drop l.value-index l.items)) ≡ held_from [] (items_view l.items))
