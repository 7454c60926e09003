use Rattle.std.proofs.Common.{◌≡◌, ◌∙◌, ap, sym, Some, None, FitsSigned, w32}
use Rattle.std.proofs.lemmas.Int.{to_z-of_z}
use Rattle.shape_exact.specs.Reading.{sign, cross_at}
use Rattle.common_lists.proofs.FirstLaws.{first_is, first_more}
use Rattle.shape_exact.proofs.ReadLaws.{sign_at}
use Rattle.shape_exact.proofs.faults.sign_of_edge.Goals as goal

pub returns-in-Some : goal.returns-in-Some
returns-in-Some c =
    let fits : FitsSigned w32 c.cross_at.result = record { sfits = c.cross_at.type_inv } in
    let found : sign (cross_at c.args.points.now c.args.e c.loop-v.v) ≡ Some c.in-Some.left =
    ap sign (sym (to_z-of_z w32 c.cross_at.result fits ∙ c.cross_at.ensures)) ∙ sym c.sign.ensures ∙ c.in-Some.is in
    sym (first_is _ c.loop-v.v (sign_at c.args.points.now c.args.e) c.in-Some.left c.loop-v.invariant c.loop-v-test.true found)

pub loop-v-preserved : goal.loop-v-preserved
loop-v-preserved c =
    let fits : FitsSigned w32 c.cross_at.result = record { sfits = c.cross_at.type_inv } in
    let none : sign (cross_at c.args.points.now c.args.e c.loop-v.v) ≡ None =
    ap sign (sym (to_z-of_z w32 c.cross_at.result fits ∙ c.cross_at.ensures)) ∙ sym c.sign.ensures ∙ c.in_default.is in
    first_more c.loop-v.v (sign_at c.args.points.now c.args.e) c.loop-v.invariant none
