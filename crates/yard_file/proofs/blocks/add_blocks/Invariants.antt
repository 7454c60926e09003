use Rattle.std.proofs.Common.{◌≡◌, drop, length, []}
use Rattle.toml.specs.View.{items_view}
use Rattle.yard_file.specs.Blocks.{blocks_from}
use Rattle.yard_file.proofs.blocks.add_blocks.Given as goal

abbrev pub invariant-loop-value : goal.invariant-loop-value
invariant-loop-value l =
    (l.i ≡ l.value-index) × (length l.yard.blocks ≡ l.i) × (l.yard.days ≡ l.fn.yard.days) × (l.yard.plates ≡ l.fn.yard.plates)
    × (l.yard.fixed ≡ l.fn.yard.fixed)
    × (blocks_from l.version l.i l.yard.blocks (items_view (drop l.value-index l.items)) ≡ blocks_from l.version 0 [] (items_view l.items))
