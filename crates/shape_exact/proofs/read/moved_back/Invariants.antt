use Rattle.std.proofs.Common.{◌≡◌, ◌-ℤ◌, map, take}
use Rattle.shape_exact.proofs.read.moved_back.Given as goal

abbrev pub invariant-loop-p : goal.invariant-loop-p
invariant-loop-p l = l.line.items ≡ map (λ p. record { x = p.x -ℤ l.corner.x; y = p.y -ℤ l.corner.y }) (take l.p-index l.points)
