use Rattle.std.proofs.Common.{◌≡◌, drop, take}
use Rattle.std.specs.List.{All}
use Rattle.shape_exact.specs.Yards.{StandApart}
use Rattle.yard_file.specs.Clashes.{first_clash}
use Rattle.yard_file.proofs.clashes.first_clash.Given as goal

abbrev pub invariant-loop-j : goal.invariant-loop-j
invariant-loop-j l =
    All (λ f. StandApart f l.piece) (take l.j l.pieces)
    × (first_clash l.j (drop l.j l.pieces) l.piece ≡ first_clash 0 l.pieces l.piece)
