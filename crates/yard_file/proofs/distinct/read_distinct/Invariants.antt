use Rattle.std.proofs.Common.{◌≡◌, ◌≤◌, drop, length, [], true}
use Rattle.shape_exact.specs.Days.{are_days}
use Rattle.toml.specs.View.{items_view}
use Rattle.yard_file.specs.Distinct.{distinct_from}
use Rattle.yard_file.proofs.distinct.read_distinct.Given as goal

abbrev pub invariant-loop-i : goal.invariant-loop-i
invariant-loop-i l =
    (length l.list ≡ l.i) × (length l.list ≤ 400) × (are_days 0 l.limit l.list ≡ true)
    × (distinct_from l.limit l.i l.list (items_view (drop l.i l.items)) ≡ distinct_from l.limit 0 [] (items_view l.items))
