use Rattle.std.proofs.Common.{◌≡◌, ◌∙◌, ◌≤◌, ap, sym, arith, FitsSigned, w32, ℕ, ℤ, pos}
use Rattle.std.specs.Prelude.{◌≤ℤ◌}
use Rattle.std.proofs.lemmas.Int.{to_z-of_z, ints}
use Rattle.shape_exact.specs.Shapes.{turned, reach_y}
use Rattle.shape_exact.proofs.FormLaws.{not_under, turned_points}
use Rattle.shape_exact.proofs.shape.Shape.quarter.Goals as goal

fits : (h : ℤ) (n : ℕ) → h ≡ pos n → n ≤ 2000 → FitsSigned w32 h
fits h n e l = omega (arith, ints)

not_negative : (h : ℤ) (n : ℕ) → h ≡ pos n → pos 0 ≤ℤ h
not_negative h n e = omega (arith, ints)

pub turn_once-points-requires-clause-height : goal.turn_once-points-requires-clause-height
turn_once-points-requires-clause-height c =
    let f = fits c.extent-height.result.1 (reach_y c.args.self.now) c.extent-height.ensures.y c.extent-height.ensures.few.1 in
    simp to_z-of_z (not_negative c.extent-height.result.1 (reach_y c.args.self.now) c.extent-height.ensures.y)

pub turn_once-points-requires-clause-points : goal.turn_once-points-requires-clause-points
turn_once-points-requires-clause-points c = not_under c.points.result.now c.points.ensures.shape

pub invariant_of-result : goal.invariant_of-result
invariant_of-result c =
    let f = fits c.extent-height.result.1 (reach_y c.args.self.now) c.extent-height.ensures.y c.extent-height.ensures.few.1 in
    let e = simp to_z-of_z at c.turn_once-points.ensures in
    let y = c.extent-height.ensures.y ∙ ap (λ vs. pos (reach_y vs)) (sym c.points.ensures.value) in
    (turned_points c.points.result.now c.turn_once-points.result.items c.extent-height.result.1 c.points.ensures.shape y e).1

pub returns : goal.returns
returns c =
    let f = fits c.extent-height.result.1 (reach_y c.args.self.now) c.extent-height.ensures.y c.extent-height.ensures.few.1 in
    let e = simp to_z-of_z at c.turn_once-points.ensures in
    let y = c.extent-height.ensures.y ∙ ap (λ vs. pos (reach_y vs)) (sym c.points.ensures.value) in
    (turned_points c.points.result.now c.turn_once-points.result.items c.extent-height.result.1 c.points.ensures.shape y e).0 ∙ ap (turned 1) c.points.ensures.value
