use Rattle.std.proofs.Common.{ℕ, ◌<◌, get_or}
use Rattle.log_checker.specs.NearPieces.{MeetsAt}
use Rattle.log_checker.proofs.near.meets_one.Given as goal

-- the placement meets none of the first pieces
abbrev pub invariant-loop-piece : goal.invariant-loop-piece
invariant-loop-piece l = (k d : ℕ) → k < l.piece-index → MeetsAt l.codes l.block l.place (get_or l.pieces k d) → ⊥
