use Rattle.std.proofs.Common.{◌≡◌, ℕ, ◌<◌, Some, length, slice_get}
use Rattle.shape_exact.specs.Shapes.{turned}
use Rattle.code_table.proofs.stand.turns_of.Given as goal

-- the turns so far
abbrev pub invariant-loop-turn : goal.invariant-loop-turn
invariant-loop-turn l =
    (length l.shapes.items ≡ l.turn) × ((q : ℕ) → q < l.turn → slice_get l.shapes.items q ≡ Some (turned q l.shape))
