use Rattle.std.proofs.Common.{◌≡◌, drop}
use Rattle.std.specs.List.{list_any}
use Rattle.bound_tests.proofs.yards.any_turn.Given as goal

-- a turn that is left is allowed exactly where one of all is
abbrev pub invariant-loop-turn : goal.invariant-loop-turn
invariant-loop-turn l = list_any (λ t. t) (drop l.turn-index l.turns) ≡ list_any (λ t. t) l.turns
