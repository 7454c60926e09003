use Rattle.tardiness_bounds.specs.Witnesses.{AreFull}
use Rattle.tardiness_bounds.proofs.witness.witness_from.Given as goal

-- the slots so far are full
abbrev pub invariant-loop-i : goal.invariant-loop-i
invariant-loop-i l = AreFull l.tables l.list l.block l.i
