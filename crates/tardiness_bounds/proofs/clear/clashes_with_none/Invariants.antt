use Rattle.std.proofs.Common.{take}
use Rattle.std.specs.Prelude.{All}
use Rattle.tardiness_bounds.specs.Standings.{ClashesAt}
use Rattle.tardiness_bounds.proofs.clear.clashes_with_none.Given as goal

-- it clashes with none of the first blocks
abbrev pub invariant-loop-f : goal.invariant-loop-f
invariant-loop-f l = All (λ f. ClashesAt l.tables.yard f l.block l.place → ⊥) (take l.f-index l.list)
