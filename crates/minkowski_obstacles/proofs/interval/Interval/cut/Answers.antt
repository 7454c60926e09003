use Rattle.std.proofs.Common.{ℤ, pos, neg_ℤ, w64, FitsSigned, ◌≡◌, ◌↔◌, ◌≤ℤ◌, ◌<ℤ◌, ◌*ℤ◌, ◌-ℤ◌, ◌≤◌, arith}
use Rattle.std.specs.Int.RustNames.{unsigned_abs}
use Rattle.std.proofs.lemmas.Int.{to_z-of_z, ints}
use Rattle.shape_exact.proofs.RingLaws.{linear}
use Rattle.shape_exact.proofs.RowLaws.{cut_top, cut_bottom}
use Rattle.minkowski_obstacles.proofs.interval.Interval.cut.Goals as goal

less_fits : (b : ℤ) → unsigned_abs b ≤ 20000000000000 → FitsSigned w64 (b -ℤ pos 1)
less_fits b h = omega (arith, ints)

zero_less : (a : ℤ) → pos 0 -ℤ a ≡ neg_ℤ a
zero_less a = omega (arith, linear)

negated_fits : (a : ℤ) → unsigned_abs a ≤ 30000000000000 → FitsSigned w64 (pos 0 -ℤ a)
negated_fits a h = omega (arith, ints)

slope_fits : (a : ℤ) → unsigned_abs a ≤ 1000000 → FitsSigned w64 (pos 0 -ℤ a)
slope_fits a h = omega (arith, ints)

bottom_is : (slope bound q x : ℤ) → (((pos 0 -ℤ slope) *ℤ neg_ℤ x) ≤ℤ (bound -ℤ pos 1)) ↔ (neg_ℤ x ≤ℤ q) → ((slope *ℤ x) <ℤ bound) ↔ ((pos 0 -ℤ q) ≤ℤ x)
bottom_is slope bound q x e = rw (zero_less q) (cut_bottom slope bound q x (rw (zero_less slope) at e))

join : (A B C D : Type 0) → A ↔ (B × C) → D ↔ C → A ↔ (B × D)
join A B C D h e = (λ a. let p = h.0 a in (p.0, e.1 p.1), λ p. h.1 (p.0, e.0 p.1))

pub returns-then-slope-gt0 : goal.returns-then-slope-gt0
returns-then-slope-gt0 c = λ x.
    let fs = c.ranges.slope in
    let fb = c.ranges.bound in
    let fq : FitsSigned w64 c.quotient.result = record { sfits = c.quotient.type_inv } in
    let fl = less_fits c.args.bound c.requires.bound in
    let e = simp to_z-of_z at (c.quotient.ensures.is x) in
    let h = simp to_z-of_z at (c.up_to.ensures x) in
    join _ _ _ _ h (cut_top c.args.slope c.args.bound c.quotient.result x e)

pub returns-then-slope-lt0 : goal.returns-then-slope-lt0
returns-then-slope-lt0 c = λ x.
    let fs = c.ranges.slope in
    let fb = c.ranges.bound in
    let fq : FitsSigned w64 c.quotient-then-slope-lt0.result = record { sfits = c.quotient-then-slope-lt0.type_inv } in
    let fl = less_fits c.args.bound c.requires.bound in
    let fn = slope_fits c.args.slope c.requires.slope in
    let fr = negated_fits c.quotient-then-slope-lt0.result c.quotient-then-slope-lt0.ensures.small in
    let e = simp to_z-of_z at (c.quotient-then-slope-lt0.ensures.is (neg_ℤ x)) in
    let h = simp to_z-of_z at (c.down_to.ensures x) in
    join _ _ _ _ h (bottom_is c.args.slope c.args.bound c.quotient-then-slope-lt0.result x e)
