use Rattle.std.proofs.Common.{ℤ, ◌-ℤ◌, ◌≤◌, ◌∙◌, w32, arith, FitsSigned}
use Rattle.std.specs.Int.RustNames.{unsigned_abs}
use Rattle.std.proofs.lemmas.Int.{to_z-of_z, ints}
use Rattle.minkowski_obstacles.proofs.edge.Edge.height.Goals as goal

difference_fits : (a b : ℤ) → unsigned_abs a ≤ 2000 → unsigned_abs b ≤ 2000 → FitsSigned w32 (a -ℤ b)
difference_fits a b h k = omega (arith, ints)

number_fits : (a : ℤ) → unsigned_abs a ≤ 2000 → FitsSigned w32 a
number_fits a h = omega (arith, ints)

pub returns : goal.returns
returns c =
    let f = c.requires.from in
    let t = c.requires.to in
    let v = c.requires.v in
    let n1 = number_fits c.args.self.from.x f.0 in
    let n2 = number_fits c.args.self.from.y f.1 in
    let n3 = number_fits c.args.self.to.x t.0 in
    let n4 = number_fits c.args.self.to.y t.1 in
    let n5 = number_fits c.args.v.x v.0 in
    let n6 = number_fits c.args.v.y v.1 in
    let d1 = difference_fits c.args.self.to.x c.args.self.from.x t.0 f.0 in
    let d2 = difference_fits c.args.self.to.y c.args.self.from.y t.1 f.1 in
    let d3 = difference_fits c.args.v.x c.args.self.from.x v.0 f.0 in
    let d4 = difference_fits c.args.v.y c.args.self.from.y v.1 f.1 in
    let r : FitsSigned w32 c.product.result = record { sfits = c.product.type_inv } in
    to_z-of_z w32 c.product.result r ∙ (simp to_z-of_z at c.product.ensures)
