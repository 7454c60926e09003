use Rattle.std.proofs.Common.{◌∙◌, ap, get_or, map, drop, ◌+◌, pos, FitsSigned, w32, rules}
use Rattle.std.specs.Prelude.{fold}
use Rattle.std.specs.Int.{int_min}
use Rattle.std.proofs.lemmas.Int.{to_z-of_z}
use Rattle.shape_exact.specs.declared.point.Point.{Point}
use Rattle.shape_exact.proofs.CornerLaws.{fold_next}
use Rattle.shape_exact.proofs.corner.lower_corner.Goals as goal

pub loop-p-preserved : goal.loop-p-preserved
loop-p-preserved c =
    let o : Point = record { x = pos 0; y = pos 0 } in
    let p : Point = get_or c.args.points.now c.loop-p.p-index o in
    let cx : FitsSigned w32 c.loop-p.corner.x = search rules in
    let cy : FitsSigned w32 c.loop-p.corner.y = search rules in
    let px : FitsSigned w32 p.x = search rules in
    let py : FitsSigned w32 p.y = search rules in
    let rx : FitsSigned w32 c.min.result = search rules in
    let ry : FitsSigned w32 c.min-in-loop-p.result = search rules in
    let left = simp to_z-of_z at c.min.ensures.value in
    let down = simp to_z-of_z at c.min-in-loop-p.ensures.value in
    simp to_z-of_z (record {
      x = ap (λ a. fold int_min a (map (λ p. p.x) (drop (c.loop-p.p-index + 1) c.args.points.now))) left
          ∙ fold_next int_min (λ p. p.x) c.loop-p.corner.x c.args.points.now c.loop-p.p-index o c.loop-p-test.true ∙ c.loop-p.invariant.x;
      y = ap (λ a. fold int_min a (map (λ p. p.y) (drop (c.loop-p.p-index + 1) c.args.points.now))) down
          ∙ fold_next int_min (λ p. p.y) c.loop-p.corner.y c.args.points.now c.loop-p.p-index o c.loop-p-test.true ∙ c.loop-p.invariant.y;
    })
