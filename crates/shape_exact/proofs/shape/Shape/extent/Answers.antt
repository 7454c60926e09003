use Rattle.std.proofs.Common.{◌≡◌, ◌∙◌, ap, subst, List, FitsSigned, w32, rules}
use Rattle.std.proofs.lemmas.Int.{to_z-of_z}
use Rattle.shape_exact.specs.declared.point.Point.{Point}
use Rattle.shape_exact.specs.Shapes.{IsShape, greatest}
use Rattle.shape_exact.proofs.ShapeLaws.{reaches_x, reaches_y}
use Rattle.shape_exact.proofs.shape.Shape.extent.Goals as goal

is_shape : (vs ws : List Point) → vs ≡ ws → IsShape vs → IsShape ws
is_shape vs ws e s = subst (λ (us : List Point). IsShape us) e s

pub returns-clause-x : goal.returns-clause-x
returns-clause-x c =
    let fits : FitsSigned w32 c.upper_corner-corner.result.x = search rules in
    to_z-of_z w32 c.upper_corner-corner.result.x fits
    ∙ c.upper_corner-corner.ensures.x ∙ ap (greatest (λ p. p.x)) c.points.ensures.value ∙ (reaches_x c.args.self.now (is_shape _ _ c.points.ensures.value c.points.ensures.shape)).is

pub returns-clause-y : goal.returns-clause-y
returns-clause-y c =
    let fits : FitsSigned w32 c.upper_corner-corner.result.y = search rules in
    to_z-of_z w32 c.upper_corner-corner.result.y fits
    ∙ c.upper_corner-corner.ensures.y ∙ ap (greatest (λ p. p.y)) c.points.ensures.value ∙ (reaches_y c.args.self.now (is_shape _ _ c.points.ensures.value c.points.ensures.shape)).is

pub returns-clause-some : goal.returns-clause-some
returns-clause-some c = ((reaches_x c.args.self.now (is_shape _ _ c.points.ensures.value c.points.ensures.shape)).some, (reaches_y c.args.self.now (is_shape _ _ c.points.ensures.value c.points.ensures.shape)).some)

pub returns-clause-few : goal.returns-clause-few
returns-clause-few c = ((reaches_x c.args.self.now (is_shape _ _ c.points.ensures.value c.points.ensures.shape)).few, (reaches_y c.args.self.now (is_shape _ _ c.points.ensures.value c.points.ensures.shape)).few)
