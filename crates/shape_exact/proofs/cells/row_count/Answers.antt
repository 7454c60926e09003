use Rattle.std.proofs.Common.{◌≡◌, ◌∙◌, ◌≤◌, ℕ, ℤ, pos, ◌-ℤ◌, ◌<ℤ◌, ◌≤ℤ◌, arith, ap, w32, to_z, FitsSigned, rules, ◌+◌}
use Rattle.std.proofs.lemmas.Int.{to_z-of_z, ints}
use Rattle.shape_exact.proofs.ColumnLaws.{row_sum, row_none, row_within}
use Rattle.shape_exact.proofs.cells.row_count.Goals as goal

cast : (n : ℕ) → n ≤ 2000 → to_z w32 n ≡ pos n
cast n h = omega (arith, ints)

gap_fits : (a b : ℤ) (n : ℕ) → n ≤ 2000 → (pos 0 ≤ℤ a) × (b <ℤ pos n) → a ≤ℤ b → FitsSigned w32 (b -ℤ a)
gap_fits a b n l h k = let x = h.0 in let y = h.1 in omega (arith, ints)

pub returns-then-columns : goal.returns-then-columns
returns-then-columns c =
    let s = c.row-columns.result in
    let f1 : FitsSigned w32 c.row-columns.result.low = search rules in
    let f2 : FitsSigned w32 c.row-columns.result.high = search rules in
    let t = simp to_z-of_z at c.if-columns.true in
    let l : c.row-columns.result.low ≤ℤ c.row-columns.result.high = omega (arith, ints, t) in
    let b = row_within c.args.vertices.now c.args.width (to_z w32 c.args.width) (to_z w32 c.args.j) c.row-columns.result (cast c.args.width c.requires.width) c.row-columns.ensures l in
    let f3 = gap_fits c.row-columns.result.low c.row-columns.result.high c.args.width c.requires.width b l in
    let e = row_sum c.args.vertices.now c.args.width c.args.j (to_z w32 c.args.width) (to_z w32 c.args.j) c.row-columns.result (cast c.args.width c.requires.width) (cast c.args.j c.requires.j) c.row-columns.ensures l in
    let u = simp to_z-of_z at c.unsigned_abs.ensures.value in
    ap (λ k. k + 1) u ∙ e

pub returns-else-columns : goal.returns-else-columns
returns-else-columns c =
    let f1 : FitsSigned w32 c.row-columns.result.low = search rules in
    let f2 : FitsSigned w32 c.row-columns.result.high = search rules in
    let t = simp to_z-of_z at c.if-columns.false in
    row_none c.args.vertices.now c.args.width c.args.j (to_z w32 c.args.width) (to_z w32 c.args.j) c.row-columns.result (cast c.args.width c.requires.width) (cast c.args.j c.requires.j) c.row-columns.ensures (omega (arith, ints, t))
