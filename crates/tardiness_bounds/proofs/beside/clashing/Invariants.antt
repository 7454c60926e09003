use Rattle.std.proofs.Common.{take}
use Rattle.std.specs.Prelude.{All, MatchOption}
use Rattle.tardiness_bounds.specs.Besides.{ClashesBeside}
use Rattle.tardiness_bounds.specs.Standings.{ClashesAt}
use Rattle.tardiness_bounds.proofs.beside.clashing.Given as goal

-- none of the first ones clashes, or the one that was found does
abbrev pub invariant-loop-f : goal.invariant-loop-f
invariant-loop-f l =
    MatchOption l.found (All (λ f. ClashesAt l.tables.yard f l.block l.place → ⊥) (take l.f-index l.list)) (ClashesBeside l.tables.yard l.list l.block l.place)
