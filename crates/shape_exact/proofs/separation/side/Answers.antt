use Rattle.std.proofs.Common.{ℕ, ℤ, ◌-ℤ◌, ◌+ℤ◌, ◌≤◌, ◌∙◌, w32, arith, FitsSigned}
use Rattle.std.specs.Int.RustNames.{unsigned_abs}
use Rattle.std.proofs.lemmas.Int.{to_z-of_z, ints}
use Rattle.shape_exact.proofs.separation.side.Goals as goal

number_fits : (a : ℤ) (k : ℕ) → k ≤ 20000 → unsigned_abs a ≤ k → FitsSigned w32 a
number_fits a k l h = omega (arith, ints)

difference_fits : (a b : ℤ) → unsigned_abs a ≤ 2000 → unsigned_abs b ≤ 2000 → FitsSigned w32 (a -ℤ b)
difference_fits a b h k = omega (arith, ints)

moved_fits : (a b : ℤ) → unsigned_abs a ≤ 2000 → unsigned_abs b ≤ 20000 → FitsSigned w32 (a +ℤ b)
moved_fits a b h k = omega (arith, ints)

gap_fits : (a b d : ℤ) → unsigned_abs a ≤ 2000 → unsigned_abs b ≤ 20000 → unsigned_abs d ≤ 2000 → FitsSigned w32 ((a +ℤ b) -ℤ d)
gap_fits a b d h k l = omega (arith, ints)

pub returns : goal.returns
returns c =
    let f = c.requires.from in
    let t = c.requires.to in
    let v = c.requires.vertex in
    let b = c.requires.by in
    let n1 = number_fits c.args.from.x 2000 (omega arith) f.0 in
    let n2 = number_fits c.args.from.y 2000 (omega arith) f.1 in
    let n3 = number_fits c.args.to.x 2000 (omega arith) t.0 in
    let n4 = number_fits c.args.to.y 2000 (omega arith) t.1 in
    let n5 = number_fits c.args.vertex.x 2000 (omega arith) v.0 in
    let n6 = number_fits c.args.vertex.y 2000 (omega arith) v.1 in
    let n7 = number_fits c.args.by.x 20000 (omega arith) b.0 in
    let n8 = number_fits c.args.by.y 20000 (omega arith) b.1 in
    let d1 = difference_fits c.args.to.x c.args.from.x t.0 f.0 in
    let d2 = difference_fits c.args.to.y c.args.from.y t.1 f.1 in
    let m1 = moved_fits c.args.vertex.x c.args.by.x v.0 b.0 in
    let m2 = moved_fits c.args.vertex.y c.args.by.y v.1 b.1 in
    let g1 = gap_fits c.args.vertex.x c.args.by.x c.args.from.x v.0 b.0 f.0 in
    let g2 = gap_fits c.args.vertex.y c.args.by.y c.args.from.y v.1 b.1 f.1 in
    let r : FitsSigned w32 c.cross_product.result = record { sfits = c.cross_product.type_inv } in
    to_z-of_z w32 c.cross_product.result r ∙ (simp to_z-of_z at c.cross_product.ensures)
