use Rattle.std.proofs.Common.{◌≡◌, ◌∙◌, ◌≤◌, ◌<◌, ◌+◌, pos, ◌<ℤ◌, ◌≤ℤ◌, ◌↔◌, arith, subst, sym, ap, take, get_or, length, Bool, true, List}
use Rattle.std.specs.Prelude.{int_lt, ◌&&◌}
use Rattle.std.specs.List.{list_all}
use Rattle.std.proofs.lemmas.Int.{to_z-of_z}
use Rattle.std.proofs.lemmas.List.{take_all}
use Rattle.std.proofs.lemmas.List.Folds.{list_all_more}
use Rattle.shape_exact.specs.declared.point.Point.{Point}
use Rattle.shape_exact.specs.Shapes.{edges, side_of, origin}
use Rattle.shape_exact.specs.Cells.{Holds, centre_of}
use Rattle.shape_exact.proofs.BridgeLaws.{length-edges}
use Rattle.shape_exact.proofs.ColumnLaws.{one_more}
use Rattle.shape_exact.proofs.cells.row.Goals as goal

pub loop-k-preserved : goal.loop-k-preserved
loop-k-preserved c = λ i.
    let fw = c.ranges.width in
    let fj = c.ranges.j in
    let o : Point = record { x = pos 0; y = pos 0 } in
    let es : List (Point × Point) = edges c.args.vertices.now in
    let k = c.loop-k.k in
    let p : Point × Point → Bool = λ e. int_lt (pos 0) (side_of e.0 e.1 origin (centre_of i c.args.j)) in
    let S : Type 0 = (pos 0 ≤ℤ i) × (i <ℤ c.args.width) in
    let from = get_or c.args.vertices.now k o in
    let n = length-edges c.args.vertices.now in
    let lt : k < length es = omega arith in
    let e = simp to_z-of_z at (c.loop-k.invariant i) in
    let u = simp to_z-of_z at (c.cut_by-columns.ensures i) in
    let m : list_all p (take (k + 1) es) ≡ (list_all p (take k es) && p (from, c.end_of.result)) =
    list_all_more p es k (o, o) lt ∙ ap (λ d. list_all p (take k es) && p d) (c.end_of.ensures.edge (o, o)) in
    simp to_z-of_z (subst (λ (b : Bool). Holds c.cut_by-columns.result i ↔ (S × (b ≡ true))) (sym m)
    (one_more S (Holds c.loop-k.columns i) (Holds c.cut_by-columns.result i) (list_all p (take k es)) (side_of from c.end_of.result origin (centre_of i c.args.j)) e u))

pub returns : goal.returns
returns c = λ i.
    let fw = c.ranges.width in
    let fj = c.ranges.j in
    let es : List (Point × Point) = edges c.args.vertices.now in
    let p : Point × Point → Bool = λ e. int_lt (pos 0) (side_of e.0 e.1 origin (centre_of i c.args.j)) in
    let S : Type 0 = (pos 0 ≤ℤ i) × (i <ℤ c.args.width) in
    let n = length-edges c.args.vertices.now in
    let le : length es ≤ c.loop-k.k = omega arith in
    let e = simp to_z-of_z at (c.loop-k.invariant i) in
    subst (λ (xs : List (Point × Point)). Holds c.loop-k.columns i ↔ (S × (list_all p xs ≡ true))) (take_all c.loop-k.k es le) e
