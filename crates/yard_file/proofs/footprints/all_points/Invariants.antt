use Rattle.std.proofs.Common.{◌≡◌, drop}
use Rattle.toml.specs.View.{items_view}
use Rattle.yard_file.specs.Footprints.{all_points}
use Rattle.yard_file.proofs.footprints.all_points.Given as goal

abbrev pub invariant-loop-value : goal.invariant-loop-value
invariant-loop-value l = all_points (items_view (drop l.value-index l.items)) ≡ all_points (items_view l.items)
