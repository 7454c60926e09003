use Rattle.std.proofs.Common.{◌≡◌, drop, length, []}
use Rattle.toml.specs.View.{items_view}
use Rattle.yard_file.specs.Pieces.{pieces_from}
use Rattle.yard_file.proofs.pieces.add_pieces.Given as goal

abbrev pub invariant-loop-value : goal.invariant-loop-value
invariant-loop-value l =
    (l.i ≡ l.value-index) × (length l.yard.fixed ≡ l.i) × (l.yard.days ≡ l.fn.yard.days) × (l.yard.plates ≡ l.fn.yard.plates)
    × (l.yard.blocks ≡ l.fn.yard.blocks)
    × (pieces_from l.fn.yard.days l.fn.yard.plates l.i l.yard.fixed (items_view (drop l.value-index l.items))
    ≡ pieces_from l.fn.yard.days l.fn.yard.plates 0 [] (items_view l.items))
