use Rattle.std.proofs.Common.{pos, ◌≤ℤ◌, take}
use Rattle.std.specs.List.{All}
use Rattle.shape_exact.specs.Shapes.{cross}
use Rattle.shape_exact.specs.Separation.{moved}
use Rattle.shape_exact.proofs.separation.sees.Given as goal

abbrev pub invariant-loop-v : goal.invariant-loop-v
invariant-loop-v l = All (λ v. cross l.from l.to (moved l.by v) ≤ℤ pos 0) (take l.v-index l.vertices)
