use Rattle.std.proofs.Common.{◌≡◌, drop}
use Rattle.std.specs.List.{list_any}
use Rattle.yard_file.proofs.turns.has_turn.Given as goal

abbrev pub invariant-loop-turn : goal.invariant-loop-turn
invariant-loop-turn l = list_any (λ t. t) (drop l.turn-index l.turns) ≡ list_any (λ t. t) l.turns
