use Rattle.std.proofs.Common.{ℤ, ◌-ℤ◌, ◌≤◌, ◌∙◌, w32, arith, FitsSigned}
use Rattle.std.specs.Prelude.{unsigned_abs}
use Rattle.std.proofs.lemmas.Int.{to_z-of_z, ints}
use Rattle.shape_exact.proofs.faults.cross.Goals as goal

fits : (a b : ℤ) → unsigned_abs a ≤ 2000 → unsigned_abs b ≤ 2000 → FitsSigned w32 (a -ℤ b)
fits a b h k = omega (arith, ints)

number : (a : ℤ) → unsigned_abs a ≤ 2000 → FitsSigned w32 a
number a h = omega (arith, ints)

pub returns : goal.returns
returns c =
    let f = c.requires.from in let t = c.requires.to in let v = c.requires.vertex in
    let n1 = number c.args.from.x f.0 in let n2 = number c.args.from.y f.1 in
    let n3 = number c.args.to.x t.0 in let n4 = number c.args.to.y t.1 in
    let n5 = number c.args.vertex.x v.0 in let n6 = number c.args.vertex.y v.1 in
    let d1 = fits c.args.to.x c.args.from.x t.0 f.0 in let d2 = fits c.args.to.y c.args.from.y t.1 f.1 in
    let d3 = fits c.args.vertex.x c.args.from.x v.0 f.0 in let d4 = fits c.args.vertex.y c.args.from.y v.1 f.1 in
    let r : FitsSigned w32 c.cross_product.result = record { sfits = c.cross_product.type_inv } in
    to_z-of_z w32 c.cross_product.result r ∙ (simp to_z-of_z at c.cross_product.ensures)
