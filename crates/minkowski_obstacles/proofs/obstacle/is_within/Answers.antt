use Rattle.std.proofs.Common.{ℤ, pos, ◌≡◌, ◌<ℤ◌, arith, subst, w32, FitsSigned, to_z, of_z, false}
use Rattle.std.specs.List.{All}
use lib.Signed.{le_z}
use Rattle.std.proofs.lemmas.Int.{ints}
use Rattle.std.proofs.lemmas.List.{take_all}
use Rattle.std.proofs.lemmas.List.Elements.{All-more}
use Rattle.minkowski_obstacles.specs.declared.side.Side.{Side}
use Rattle.minkowski_obstacles.specs.Sums.{value}
use Rattle.minkowski_obstacles.proofs.obstacle.is_within.Goals as goal

above : (r s : ℤ) → FitsSigned w32 r → le_z (to_z w32 (of_z w32 r)) (pos 0) ≡ false → r ≡ s → pos 0 <ℤ s
above r s f h e = omega (arith, ints)

none : Side
none = record { at = record { x = pos 0; y = pos 0 }; along = record { x = pos 0; y = pos 0 } }

pub loop-s-preserved : goal.loop-s-preserved
unfolding none
loop-s-preserved c = All-more (λ s. pos 0 <ℤ value s c.args.w) c.args.sides.now c.loop-s.s-index none c.loop-s-test.true c.loop-s.invariant (above c.value.result _ (record { sfits = c.value.type_inv }) c.if-value-le0.false c.value.ensures)

pub returns-clause-inside : goal.returns-clause-inside
returns-clause-inside c = λ t.
    subst (λ xs. All (λ s. pos 0 <ℤ value s c.args.w) xs) (take_all c.loop-s.s-index c.args.sides.now c.loop-s-test.false) c.loop-s.invariant
