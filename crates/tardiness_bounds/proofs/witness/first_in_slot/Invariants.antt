use Rattle.tardiness_bounds.proofs.SpotLaws.{AreTurnsFull}
use Rattle.tardiness_bounds.proofs.witness.first_in_slot.Given as goal

-- no turn so far has a free placement
abbrev pub invariant-loop-turn : goal.invariant-loop-turn
invariant-loop-turn l = AreTurnsFull l.tables.yard l.near l.block l.slot l.turn
