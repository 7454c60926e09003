use Rattle.std.proofs.Common.{ℕ, ◌<◌}
use Rattle.tardiness_bounds.specs.Standings.{MeetsAt}
use Rattle.tardiness_bounds.proofs.clear.meets_some.Given as goal

-- the block meets none of the first pieces
abbrev pub invariant-loop-i : goal.invariant-loop-i
invariant-loop-i l = (j : ℕ) → j < l.i → MeetsAt l.tables.yard l.block l.place j → ⊥
