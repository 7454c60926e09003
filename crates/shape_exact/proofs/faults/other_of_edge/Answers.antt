use Rattle.std.proofs.Common.{◌≡◌, ◌∙◌, ap, sym, refl, true, false, FitsSigned, w32}
use Rattle.std.proofs.lemmas.Int.{to_z-of_z}
use Rattle.shape_exact.specs.Reading.{is_other, cross_at}
use Rattle.common_lists.proofs.FirstLaws.{first_is, first_more}
use Rattle.shape_exact.proofs.ReadLaws.{other_at}
use Rattle.shape_exact.proofs.faults.other_of_edge.Goals as goal

pub returns-then-is_other : goal.returns-then-is_other
returns-then-is_other c =
    let fits : FitsSigned w32 c.cross_at.result = record { sfits = c.cross_at.type_inv } in
    let other : is_other c.args.left (cross_at c.args.points.now c.args.e c.loop-v.v) ≡ true =
    ap (is_other c.args.left) (sym (to_z-of_z w32 c.cross_at.result fits ∙ c.cross_at.ensures)) ∙ sym c.is_other.ensures ∙ c.if-is_other.true in
    sym (first_is _ c.loop-v.v (other_at c.args.left c.args.points.now c.args.e) c.loop-v.v c.loop-v.invariant c.loop-v-test.true (rw other refl))

pub loop-v-preserved : goal.loop-v-preserved
loop-v-preserved c =
    let fits : FitsSigned w32 c.cross_at.result = record { sfits = c.cross_at.type_inv } in
    let same : is_other c.args.left (cross_at c.args.points.now c.args.e c.loop-v.v) ≡ false =
    ap (is_other c.args.left) (sym (to_z-of_z w32 c.cross_at.result fits ∙ c.cross_at.ensures)) ∙ sym c.is_other.ensures ∙ c.if-is_other.false in
    first_more c.loop-v.v (other_at c.args.left c.args.points.now c.args.e) c.loop-v.invariant (rw same refl)
