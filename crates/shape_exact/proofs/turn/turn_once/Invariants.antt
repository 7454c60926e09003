use Rattle.std.proofs.Common.{◌≡◌, ◌-ℤ◌, map, take}
use Rattle.shape_exact.proofs.turn.turn_once.Given as goal

abbrev pub invariant-loop-p : goal.invariant-loop-p
invariant-loop-p l = l.turned.items ≡ map (λ v. record { x = l.height -ℤ v.y; y = v.x }) (take l.p-index l.points)
