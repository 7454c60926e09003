use Rattle.std.proofs.Common.{◌≡◌, IfSome}
use Rattle.incumbent_word.specs.Sharing.{IsShareable}
use Rattle.incumbent_word.proofs.tests.crowd.take_part.Given as goal

-- the seat stays at its board, and what is in hand may be shared
abbrev pub invariant-loop-turn : goal.invariant-loop-turn
invariant-loop-turn l = (l.seat.place ≡ l.board) × IfSome l.hand (IsShareable l.board.yard)
