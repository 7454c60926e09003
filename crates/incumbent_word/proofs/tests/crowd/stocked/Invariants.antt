use Rattle.std.proofs.Common.{◌≡◌}
use Rattle.incumbent_word.proofs.tests.crowd.stocked.Given as goal

-- the seat stays at its board
abbrev pub invariant-loop-slot : goal.invariant-loop-slot
invariant-loop-slot g l = l.seat.place ≡ l.board
