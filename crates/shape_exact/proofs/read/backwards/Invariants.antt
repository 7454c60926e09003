use Rattle.std.proofs.Common.{◌≡◌, ◌∷◌, ◌+◌, ◌-◌, length, drop, reverse}
use Rattle.shape_exact.specs.Reading.{vertex}
use Rattle.shape_exact.proofs.read.backwards.Given as goal

abbrev pub invariant-loop-i : goal.invariant-loop-i
invariant-loop-i l = l.line.items ≡ vertex l.points 0 ∷ reverse (drop (length l.points + 1 - l.i) l.points)
