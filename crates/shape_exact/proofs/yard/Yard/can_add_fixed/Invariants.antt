use Rattle.std.proofs.Common.{ℕ, ◌<◌, get_or}
use Rattle.shape_exact.specs.Yards.{StandApart}
use Rattle.shape_exact.specs.declared.fixed.Fixed.{Fixed}
use Rattle.shape_exact.proofs.yard.Yard.can_add_fixed.Given as goal

-- the piece is apart from the first pieces
abbrev pub invariant-loop-other : goal.invariant-loop-other
invariant-loop-other l = (k : ℕ) (d : Fixed) → k < l.other-index → StandApart (get_or l.pieces k d) l.piece
