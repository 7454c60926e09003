use Rattle.std.proofs.Common.{◌≡◌, ◌≤◌}
use Rattle.incumbent_word.proofs.tests.crowd.drained.Given as goal

-- the seat stays at its board, and a slot counts once
abbrev pub invariant-loop-slot : goal.invariant-loop-slot
invariant-loop-slot l = (l.seat.place ≡ l.board) × (l.count ≤ l.slot)
