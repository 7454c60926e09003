use Rattle.std.proofs.Common.{◌∙◌, List, ap, sym, subst, Ok}
use Rattle.shape_exact.specs.declared.point.Point.{Point}
use Rattle.shape_exact.specs.Shapes.{IsShape}
use Rattle.shape_exact.proofs.FaultLaws.{too_few, too_many, far, equal, flat, other, good, footprint, are_near}
use Rattle.shape_exact.proofs.shape.Shape.read.Goals as goal

pub returns-then-points-lt3 : goal.returns-then-points-lt3
returns-then-points-lt3 c = sym (too_few c.args.points.now c.if-points-lt3.true)

pub returns-then-points-gt16 : goal.returns-then-points-gt16
returns-then-points-gt16 c = sym (too_many c.args.points.now c.if-points-gt16.true)

pub returns-in-Some : goal.returns-in-Some
returns-in-Some c = sym (far c.args.points.now c.in-Some.i c.if-points-lt3.false c.if-points-gt16.false (sym c.first_far.ensures ∙ c.in-Some.is))

pub returns-in-Some-first_equal : goal.returns-in-Some-first_equal
returns-in-Some-first_equal c =
    sym (equal c.args.points.now c.in-Some-first_equal.i c.in-Some-first_equal.j c.if-points-lt3.false c.if-points-gt16.false
    (sym c.first_far.ensures ∙ c.in_default.is) (sym c.first_equal.ensures ∙ c.in-Some-first_equal.is))

pub inner_sign-requires : goal.inner_sign-requires
inner_sign-requires c = are_near c.args.points.now (sym c.first_far.ensures ∙ c.in_default.is)

pub returns-in_default-inner_sign : goal.returns-in_default-inner_sign
returns-in_default-inner_sign c =
    sym (flat c.args.points.now c.if-points-lt3.false c.if-points-gt16.false
    (sym c.first_far.ensures ∙ c.in_default.is) (sym c.first_equal.ensures ∙ c.in_default-first_equal.is) (sym c.inner_sign.ensures ∙ c.in_default-inner_sign.is))

pub first_other-requires-clause-near : goal.first_other-requires-clause-near
first_other-requires-clause-near c = are_near c.args.points.now (sym c.first_far.ensures ∙ c.in_default.is)

pub returns-in-Some-first_other : goal.returns-in-Some-first_other
returns-in-Some-first_other c =
    sym (other c.args.points.now c.in-Some-inner_sign.left c.in-Some-first_other.e c.in-Some-first_other.v c.if-points-lt3.false c.if-points-gt16.false
    (sym c.first_far.ensures ∙ c.in_default.is) (sym c.first_equal.ensures ∙ c.in_default-first_equal.is)
    (sym c.inner_sign.ensures ∙ c.in-Some-inner_sign.is) (sym c.first_other.ensures ∙ c.in-Some-first_other.is))

pub leftwards-points-requires-clause-near : goal.leftwards-points-requires-clause-near
leftwards-points-requires-clause-near c = are_near c.args.points.now (sym c.first_far.ensures ∙ c.in_default.is)

pub invariant_of-result : goal.invariant_of-result
invariant_of-result c =
    subst (λ (vs : List Point). IsShape vs) (sym c.leftwards-points.ensures)
    (footprint c.args.points.now c.in-Some-inner_sign.left c.if-points-lt3.false c.if-points-gt16.false
    (sym c.first_far.ensures ∙ c.in_default.is) (sym c.first_equal.ensures ∙ c.in_default-first_equal.is)
    (sym c.inner_sign.ensures ∙ c.in-Some-inner_sign.is) (sym c.first_other.ensures ∙ c.in_default-first_other.is))

pub returns : goal.returns
returns c =
    ap (λ (vs : List Point). Ok vs) c.leftwards-points.ensures
    ∙ sym (good c.args.points.now c.in-Some-inner_sign.left c.if-points-lt3.false c.if-points-gt16.false
    (sym c.first_far.ensures ∙ c.in_default.is) (sym c.first_equal.ensures ∙ c.in_default-first_equal.is)
    (sym c.inner_sign.ensures ∙ c.in-Some-inner_sign.is) (sym c.first_other.ensures ∙ c.in_default-first_other.is))
