use Rattle.std.proofs.Common.{◌≡◌, ◌↔◌, ℤ, pos, ◌≤ℤ◌, ◌<ℤ◌, true, take}
use Rattle.std.specs.Prelude.{int_lt}
use Rattle.std.specs.List.{list_all}
use Rattle.shape_exact.specs.Shapes.{edges, side_of, origin}
use Rattle.shape_exact.specs.Cells.{Holds, centre_of}
use Rattle.shape_exact.proofs.cells.row.Given as goal

abbrev pub invariant-loop-k : goal.invariant-loop-k
invariant-loop-k l =
    (i : ℤ) → Holds l.columns i
    ↔ (((pos 0 ≤ℤ i) × (i <ℤ l.width)) × (list_all (λ e. int_lt (pos 0) (side_of e.0 e.1 origin (centre_of i l.j))) (take l.k (edges l.vertices)) ≡ true))
