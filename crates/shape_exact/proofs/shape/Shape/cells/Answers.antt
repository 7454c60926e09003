use Rattle.std.proofs.Common.{◌≡◌, ◌∙◌, ◌≤◌, ℕ, ℤ, pos, arith, ap, w32, FitsSigned}
use Rattle.std.specs.Prelude.{unsigned_abs}
use Rattle.std.proofs.lemmas.Int.{to_z-of_z, ints}
use Rattle.common_lists.specs.Each.{sum_below}
use Rattle.shape_exact.specs.Shapes.{is_inside, origin, centre, reach_x, reach_y}
use Rattle.shape_exact.proofs.FormLaws.{within}
use Rattle.shape_exact.proofs.ColumnLaws.{one_if, sum_next, row_small, cells_from}
use Rattle.shape_exact.proofs.shape.Shape.cells.Goals as goal

fits : (r : ℤ) (n : ℕ) → r ≡ pos n → n ≤ 2000 → FitsSigned w32 r
fits r n e l = omega (arith, ints)

pub row_count-cells-requires-clause-vertices : goal.row_count-cells-requires-clause-vertices
row_count-cells-requires-clause-vertices c = within c.points-points.result.now c.points-points.ensures.shape

columns_is : (c : goal.After-row_count-cells) → c.unsigned_abs-columns.result ≡ reach_x c.args.self.now
columns_is c =
    let f = fits c.extent-width.result.0 (reach_x c.args.self.now) c.extent-width.ensures.x c.extent-width.ensures.few.0 in
    simp to_z-of_z at c.unsigned_abs-columns.ensures.value ∙ ap unsigned_abs c.extent-width.ensures.x

rows_is : (c : goal.After-row_count-cells) → c.unsigned_abs-rows.result ≡ reach_y c.args.self.now
rows_is c =
    let f = fits c.extent-width.result.1 (reach_y c.args.self.now) c.extent-width.ensures.y c.extent-width.ensures.few.1 in
    simp to_z-of_z at c.unsigned_abs-rows.ensures.value ∙ ap unsigned_abs c.extent-width.ensures.y

pub overflow_add-cells : goal.overflow_add-cells
overflow_add-cells c =
    let x = columns_is c in
    let y = rows_is c in
    let few = c.extent-width.ensures.few in
    let r = row_small c.unsigned_abs-columns.result (λ i. is_inside c.points-points.result.now origin (centre i c.loop-j.j)) c.row_count-cells.result (omega arith) c.row_count-cells.ensures in
    let s = c.loop-j.invariant.small in
    omega arith

pub loop-j-preserved : goal.loop-j-preserved
loop-j-preserved c =
    let x = columns_is c in
    let few = c.extent-width.ensures.few in
    let r = row_small c.unsigned_abs-columns.result (λ i. is_inside c.points-points.result.now origin (centre i c.loop-j.j)) c.row_count-cells.result (omega arith) c.row_count-cells.ensures in
    record {
      sum = sum_next c.loop-j.j (λ j. sum_below c.unsigned_abs-columns.result (λ i. one_if (is_inside c.points-points.result.now origin (centre i j)))) c.loop-j.cells c.row_count-cells.result c.loop-j.invariant.sum c.row_count-cells.ensures;
      small = let s = c.loop-j.invariant.small in omega arith;
    }

pub returns : goal.returns
returns c =
    let f = fits c.extent-width.result.0 (reach_x c.args.self.now) c.extent-width.ensures.x c.extent-width.ensures.few.0 in
    let g = fits c.extent-width.result.1 (reach_y c.args.self.now) c.extent-width.ensures.y c.extent-width.ensures.few.1 in
    let x = simp to_z-of_z at c.unsigned_abs-columns.ensures.value ∙ ap unsigned_abs c.extent-width.ensures.x in
    let y = simp to_z-of_z at c.unsigned_abs-rows.ensures.value ∙ ap unsigned_abs c.extent-width.ensures.y in
    let j : c.loop-j.j ≡ reach_y c.args.self.now = omega arith in
    cells_from c.points-points.result.now c.args.self.now c.loop-j.cells c.unsigned_abs-columns.result c.loop-j.j c.loop-j.invariant.sum c.points-points.ensures.value x j
