use Rattle.std.proofs.Common.{pos, ◌<ℤ◌, take}
use Rattle.std.specs.List.{All, Any}
use Rattle.shape_exact.specs.Shapes.{cross, edges}
use Rattle.shape_exact.specs.Separation.{moved}
use Rattle.shape_exact.proofs.separation.has_separating_edge.Given as goal

abbrev pub invariant-loop-i : goal.invariant-loop-i
invariant-loop-i l = All (λ e. Any (λ v. pos 0 <ℤ cross e.0 e.1 (moved l.by v)) l.b) (take l.i (edges l.a))
