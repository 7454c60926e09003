use Rattle.std.proofs.Common.{ℤ, ◌-ℤ◌, ◌≤◌, ◌∙◌, w32, arith, FitsSigned}
use Rattle.std.specs.Int.RustNames.{unsigned_abs}
use Rattle.std.proofs.lemmas.Int.{to_z-of_z, ints}
use Rattle.minkowski_obstacles.proofs.side.Side.value.Goals as goal

difference_fits : (a b : ℤ) → unsigned_abs a ≤ 10000 → unsigned_abs b ≤ 4000 → FitsSigned w32 (a -ℤ b)
difference_fits a b h k = omega (arith, ints)

number_fits : (a : ℤ) → unsigned_abs a ≤ 10000 → FitsSigned w32 a
number_fits a h = omega (arith, ints)

along_fits : (a : ℤ) → unsigned_abs a ≤ 4000 → FitsSigned w32 a
along_fits a h = omega (arith, ints)

pub returns : goal.returns
returns c =
    let s = c.requires.small in
    let w = c.requires.w in
    let n1 = along_fits c.args.self.at.x s.0.0 in
    let n2 = along_fits c.args.self.at.y s.0.1 in
    let n3 = along_fits c.args.self.along.x s.1.0 in
    let n4 = along_fits c.args.self.along.y s.1.1 in
    let n5 = number_fits c.args.w.x w.0 in
    let n6 = number_fits c.args.w.y w.1 in
    let d1 = difference_fits c.args.w.x c.args.self.at.x w.0 s.0.0 in
    let d2 = difference_fits c.args.w.y c.args.self.at.y w.1 s.0.1 in
    let r : FitsSigned w32 c.product.result = record { sfits = c.product.type_inv } in
    to_z-of_z w32 c.product.result r ∙ (simp to_z-of_z at c.product.ensures)
