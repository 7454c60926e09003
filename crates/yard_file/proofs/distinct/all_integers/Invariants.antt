use Rattle.std.proofs.Common.{◌≡◌, drop}
use Rattle.toml.specs.View.{items_view}
use Rattle.yard_file.specs.Distinct.{all_integers}
use Rattle.yard_file.proofs.distinct.all_integers.Given as goal

abbrev pub invariant-loop-value : goal.invariant-loop-value
invariant-loop-value l = all_integers (items_view (drop l.value-index l.items)) ≡ all_integers (items_view l.items)
