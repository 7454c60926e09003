use Rattle.std.proofs.Common.{◌≡◌, drop, length, []}
use Rattle.toml.specs.View.{items_view}
use Rattle.yard_file.specs.Plates.{plates_from}
use Rattle.yard_file.proofs.plates.add_plates.Given as goal

abbrev pub invariant-loop-value : goal.invariant-loop-value
invariant-loop-value l =
    (l.i ≡ l.value-index) × (length l.yard.plates ≡ l.i) × (l.yard.days ≡ l.fn.yard.days) × (l.yard.blocks ≡ l.fn.yard.blocks)
    × (l.yard.fixed ≡ l.fn.yard.fixed)
    × (plates_from l.fn.yard.days l.i l.yard.plates (items_view (drop l.value-index l.items)) ≡ plates_from l.fn.yard.days 0 [] (items_view l.items))
