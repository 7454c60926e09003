use Rattle.std.proofs.Common.{◌≡◌, ◌≤◌, ◌*◌}
use Rattle.std.specs.Prelude.{if◌then◌else◌}
use Rattle.common_lists.specs.Each.{sum_below}
use Rattle.shape_exact.specs.Shapes.{is_inside, origin, centre}
use Rattle.shape_exact.proofs.shape.Shape.cells.Given as goal

abbrev pub invariant-loop-j : goal.invariant-loop-j
invariant-loop-j l = record {
  sum : l.cells ≡ sum_below l.j (λ j. sum_below l.columns (λ i. if is_inside l.points origin (centre i j) then 1 else 0));
  small : l.cells ≤ l.j * 2000;
}
