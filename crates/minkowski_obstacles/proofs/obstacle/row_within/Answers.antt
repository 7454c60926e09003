use Rattle.std.proofs.Common.{ℤ, pos, ◌<ℤ◌, ◌*ℤ◌, ◌↔◌, ◌≤◌, List, get_or, subst, arith, w32, w64, FitsSigned}
use Rattle.std.specs.Int.RustNames.{unsigned_abs}
use Rattle.std.proofs.lemmas.Int.{to_z-of_z, ints}
use Rattle.std.proofs.lemmas.List.{take_all}
use Rattle.minkowski_obstacles.specs.declared.side.Side.{Side}
use Rattle.minkowski_obstacles.specs.Intervals.{Holds}
use Rattle.minkowski_obstacles.proofs.ObstacleLaws.{IsHeld, held_more}
use Rattle.minkowski_obstacles.proofs.obstacle.row_within.Goals as goal

none : Side
none = record { at = record { x = pos 0; y = pos 0 }; along = record { x = pos 0; y = pos 0 } }

small_fits : (a : ℤ) → unsigned_abs a ≤ 4000 → FitsSigned w32 a
small_fits a h = omega (arith, ints)

pub loop-s-preserved : goal.loop-s-preserved
unfolding none
loop-s-preserved c =
    let ss = c.args.sides.now in
    let i = c.loop-s.s-index in
    let s = get_or ss i none in
    let fy = c.ranges.y in
    let fa = small_fits s.along.y (c.requires i none c.loop-s-test.true).1.1 in
    let ff : FitsSigned w64 c.from.result = record { sfits = c.from.type_inv } in
    let fb : FitsSigned w64 c.bound.result = record { sfits = c.bound.type_inv } in
    let e = simp to_z-of_z at c.from.ensures in
    let b = simp to_z-of_z at c.bound.ensures.value in
    let k = simp to_z-of_z at c.cut-row.ensures in
    let v = simp to_z-of_z at c.loop-s.invariant in
    simp to_z-of_z (held_more ss i none c.args.y c.bound.result c.loop-s.row c.cut-row.result c.loop-s-test.true b v
    (subst (λ (a : ℤ). (x : ℤ) → Holds c.cut-row.result x ↔ (Holds c.loop-s.row x × ((a *ℤ x) <ℤ c.bound.result))) e k))

pub returns : goal.returns
returns c = λ x. let fy = c.ranges.y in let v = simp to_z-of_z at (c.loop-s.invariant x) in subst (λ (ss : List Side). Holds c.loop-s.row x ↔ IsHeld ss c.args.y x) (take_all c.loop-s.s-index c.args.sides.now c.loop-s-test.false) v
