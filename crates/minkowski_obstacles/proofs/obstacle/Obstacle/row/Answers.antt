use Rattle.std.proofs.Common.{ℤ, pos, negsuc, ◌≡◌, ◌≤ℤ◌, ◌<ℤ◌, ◌↔◌, List, subst, arith, w32, w64, FitsSigned, to_z, of_z, true, false, rules}
use lib.Signed.{le_z}
use Rattle.std.proofs.lemmas.Int.{to_z-of_z, ints}
use Rattle.minkowski_obstacles.specs.declared.side.Side.{Side}
use Rattle.minkowski_obstacles.specs.declared.interval.Interval.{Interval}
use Rattle.minkowski_obstacles.specs.Intervals.{Holds}
use Rattle.minkowski_obstacles.specs.Pairs.{Pair, IsRow, IsEmptyRow}
use Rattle.minkowski_obstacles.proofs.ObstacleLaws.{IsHeld, row_is, row_none}
use Rattle.minkowski_obstacles.proofs.obstacle.Obstacle.row.Goals as goal

in_order : (a b : ℤ) → FitsSigned w64 a → FitsSigned w64 b → le_z (to_z w64 (of_z w64 a)) (to_z w64 (of_z w64 b)) ≡ true → a ≤ℤ b
in_order a b f g h = omega (arith, ints)

out_of_order : (a b : ℤ) → FitsSigned w64 a → FitsSigned w64 b → le_z (to_z w64 (of_z w64 a)) (to_z w64 (of_z w64 b)) ≡ false → b <ℤ a
out_of_order a b f g h = omega (arith, ints)

same : (a : ℤ) → a ≤ℤ a
same a = omega (arith, ints)

few : (a : ℤ) → negsuc 1999 ≤ℤ a → a ≤ℤ pos 2000 → FitsSigned w32 a
few a h k = omega (arith, ints)

-- the ends of an interval that holds something are among what it holds
low_fits : (s : Interval) (ss : List Side) (y : ℤ) → ((x : ℤ) → Holds s x ↔ IsHeld ss y x) → s.low ≤ℤ s.high → FitsSigned w32 s.low
low_fits s ss y h l = let r = (h s.low).0 (same s.low, l) in few s.low r.0.0 r.0.1

high_fits : (s : Interval) (ss : List Side) (y : ℤ) → ((x : ℤ) → Holds s x ↔ IsHeld ss y x) → s.low ≤ℤ s.high → FitsSigned w32 s.high
high_fits s ss y h l = let r = (h s.high).0 (l, same s.high) in few s.high r.0.0 r.0.1

pub overflow_cast-result : goal.overflow_cast-result
overflow_cast-result c =
    let s = c.row_within-row.result in
    let f1 : FitsSigned w64 c.row_within-row.result.low = search rules in
    let f2 : FitsSigned w64 c.row_within-row.result.high = search rules in
    let h = c.row_within-row.ensures in
    let f = low_fits s c.as_slice.result.now _ h (in_order s.low s.high f1 f2 c.if-row.true) in
    simp to_z-of_z f

pub overflow_cast-result-then-row : goal.overflow_cast-result-then-row
overflow_cast-result-then-row c =
    let s = c.row_within-row.result in
    let f1 : FitsSigned w64 c.row_within-row.result.low = search rules in
    let f2 : FitsSigned w64 c.row_within-row.result.high = search rules in
    let h = c.row_within-row.ensures in
    let f = high_fits s c.as_slice.result.now _ h (in_order s.low s.high f1 f2 c.if-row.true) in
    simp to_z-of_z f

pub returns-then-row-clause-some : goal.returns-then-row-clause-some
returns-then-row-clause-some c =
    let s = c.row_within-row.result in
    let o = c.self.inside in
    let i = c.self.invariant in
    let fy = c.ranges.y in
    let f1 : FitsSigned w64 c.row_within-row.result.low = search rules in
    let f2 : FitsSigned w64 c.row_within-row.result.high = search rules in
    let h = simp to_z-of_z at c.row_within-row.ensures in
    let k = subst (λ (ss : List Side). (x : ℤ) → Holds s x ↔ IsHeld ss c.args.y x) c.as_slice.ensures.value h in
    let l = in_order s.low s.high f1 f2 c.if-row.true in
    let g1 = low_fits s o.sides.items c.args.y k l in
    let g2 = high_fits s o.sides.items c.args.y k l in
    let r = row_is o.fixed o.moving o.sides.items c.args.y s i.fixed_shape i.moving_shape i.sum k l in
    simp to_z-of_z (subst (λ (p : Pair). IsRow p c.args.y s.low s.high) c.self.view_is r)

pub returns-else-row-clause-none : goal.returns-else-row-clause-none
returns-else-row-clause-none c =
    let s = c.row_within-row.result in
    let o = c.self.inside in
    let i = c.self.invariant in
    let fy = c.ranges.y in
    let f1 : FitsSigned w64 c.row_within-row.result.low = search rules in
    let f2 : FitsSigned w64 c.row_within-row.result.high = search rules in
    let h = simp to_z-of_z at c.row_within-row.ensures in
    let k = subst (λ (ss : List Side). (x : ℤ) → Holds s x ↔ IsHeld ss c.args.y x) c.as_slice.ensures.value h in
    let r = row_none o.fixed o.moving o.sides.items c.args.y s i.fixed_shape i.moving_shape i.sum k (out_of_order s.low s.high f1 f2 c.if-row.false) in
    subst (λ (p : Pair). IsEmptyRow p c.args.y) c.self.view_is r

pub returns-then-row-clause-few : goal.returns-then-row-clause-few
returns-then-row-clause-few c =
    let s = c.row_within-row.result in
    let f1 : FitsSigned w64 c.row_within-row.result.low = search rules in
    let f2 : FitsSigned w64 c.row_within-row.result.high = search rules in
    let h = c.row_within-row.ensures in
    let l = in_order s.low s.high f1 f2 c.if-row.true in
    let g1 = low_fits s c.as_slice.result.now _ h l in
    let g2 = high_fits s c.as_slice.result.now _ h l in
    simp to_z-of_z (((h s.low).0 (same s.low, l)).0.0, ((h s.high).0 (l, same s.high)).0.1)
