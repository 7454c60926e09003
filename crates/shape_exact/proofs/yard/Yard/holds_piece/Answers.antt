use Rattle.std.proofs.Common.{◌≡◌, ◌∙◌, Some, ap, sym, subst, arith}
use Rattle.std.specs.Prelude.{slice_get}
use Rattle.std.proofs.lemmas.Option.{slice_get-get_or}
use Rattle.shape_exact.specs.Shapes.{IsShape}
use Rattle.shape_exact.proofs.YardLaws.{piece_within}
use Rattle.shape_exact.proofs.yard.Yard.holds_piece.Goals as goal

pub returns : goal.returns
returns c =
    let found = c.in-Some.ensures.lookup in
    piece_within c.args.self.now.days c.args.self.now.plates c.args.piece.now c.in-Some.plate.now c.lies_within.result
    (subst (λ plates. slice_get plates c.args.piece.now.plate ≡ Some c.in-Some.plate.now) c.plates.ensures.value
    (slice_get-get_or c.plates.result.now c.args.piece.now.plate c.in-Some.plate.now found.3.0 ∙ ap Some (sym found.1)))
    (subst IsShape c.points-shape.ensures.value c.points-shape.ensures.shape)
    (rw c.days.ensures.value at c.lies_within.ensures)
