use Rattle.std.proofs.Common.{ℤ, pos, ◌≡◌, ◌≤ℤ◌, subst, w32, FitsSigned, to_z, of_z, false, arith}
use Rattle.std.specs.List.{All}
use lib.Signed.{lt_z}
use Rattle.std.proofs.lemmas.Int.{ints}
use Rattle.std.proofs.lemmas.List.Elements.{All-more}
use Rattle.std.proofs.lemmas.List.{take_all}
use Rattle.shape_exact.specs.Shapes.{cross}
use Rattle.shape_exact.specs.Separation.{moved}
use Rattle.shape_exact.proofs.separation.sees.Goals as goal

below : (r s : ℤ) → FitsSigned w32 r → lt_z (pos 0) (to_z w32 (of_z w32 r)) ≡ false → r ≡ s → s ≤ℤ pos 0
below r s f h e = omega (arith, ints)

pub loop-v-preserved : goal.loop-v-preserved
loop-v-preserved c = All-more (λ v. cross c.args.from c.args.to (moved c.args.by v) ≤ℤ pos 0) c.args.vertices.now c.loop-v.v-index (record { x = pos 0; y = pos 0 }) c.loop-v-test.true c.loop-v.invariant (below c.side.result _ (record { sfits = c.side.type_inv }) c.if-side-gt0.false c.side.ensures)

pub returns-clause-unseen : goal.returns-clause-unseen
returns-clause-unseen c = λ e k d h.
    let whole = take_all c.loop-v.v-index c.args.vertices.now c.loop-v-test.false in
    let all : All (λ v. cross c.args.from c.args.to (moved c.args.by v) ≤ℤ pos 0) c.args.vertices.now = subst (λ xs. All (λ v. cross c.args.from c.args.to (moved c.args.by v) ≤ℤ pos 0) xs) whole c.loop-v.invariant in
    all k d h
