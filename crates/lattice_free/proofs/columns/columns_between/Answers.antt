use Rattle.std.proofs.Common.{ℤ, pos, ◌+ℤ◌, ◌≤ℤ◌, ◌*◌, w32, arith, FitsSigned}
use Rattle.std.proofs.lemmas.Int.{to_z-of_z, ints}
use Rattle.lattice_free.proofs.ColumnLaws.{columns_are, none_between}
use Rattle.lattice_free.proofs.columns.columns_between.Goals as goal

next_fits : (a : ℤ) → FitsSigned w32 a → a ≤ℤ pos 3000 → FitsSigned w32 (a +ℤ pos 1)
next_fits a f h = omega (arith, ints)

pub returns-then-from-to-clause-some : goal.returns-then-from-to-clause-some
returns-then-from-to-clause-some c = λ k l.
    let n = k * c.args.pitch in
    let f1 = c.ranges.low in
    let f2 = next_fits c.args.high c.ranges.high c.requires.high in
    let f3 = c.ranges.high in
    let a1 = simp to_z-of_z at (c.clamped.ensures n) in
    let a2 = simp to_z-of_z at (c.clamped-2.ensures n) in
    let m1 = c.multiples_below-from.ensures.below k in
    let m2 = c.multiples_below.ensures.below k in
    columns_are c.args.low c.args.high n k c.multiples_below-from.result c.multiples_below.result c.min-to.result c.args.columns
    (λ h. a1.0 (m1.0 h), λ h. m1.1 (a1.1 h)) (λ h. a2.0 (m2.0 h), λ h. m2.1 (a2.1 h)) c.min-to.ensures l

pub returns-else-from-to-clause-none : goal.returns-else-from-to-clause-none
returns-else-from-to-clause-none c = λ k l.
    let n = k * c.args.pitch in
    let f1 = c.ranges.low in
    let f2 = next_fits c.args.high c.ranges.high c.requires.high in
    let f3 = c.ranges.high in
    let a1 = simp to_z-of_z at (c.clamped.ensures n) in
    let a2 = simp to_z-of_z at (c.clamped-2.ensures n) in
    let m1 = c.multiples_below-from.ensures.below k in
    let m2 = c.multiples_below.ensures.below k in
    none_between c.args.low c.args.high n k c.multiples_below-from.result c.multiples_below.result c.min-to.result c.args.columns
    (λ h. a1.0 (m1.0 h), λ h. m1.1 (a1.1 h)) (λ h. a2.0 (m2.0 h), λ h. m2.1 (a2.1 h)) c.min-to.ensures l (omega arith)
