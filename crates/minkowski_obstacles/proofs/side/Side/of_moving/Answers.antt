use Rattle.std.proofs.Common.{ℤ, ◌-ℤ◌, ◌≤◌, w32, arith, FitsSigned}
use Rattle.std.specs.Int.RustNames.{unsigned_abs}
use Rattle.std.proofs.lemmas.Int.{to_z-of_z, ints}
use Rattle.minkowski_obstacles.proofs.side.Side.of_moving.Goals as goal

difference_fits : (a b : ℤ) → unsigned_abs a ≤ 2000 → unsigned_abs b ≤ 2000 → FitsSigned w32 (a -ℤ b)
difference_fits a b h k = omega (arith, ints)

number_fits : (a : ℤ) → unsigned_abs a ≤ 2000 → FitsSigned w32 a
number_fits a h = omega (arith, ints)

pub returns-clause-is : goal.returns-clause-is
returns-clause-is c =
    let f = c.requires.from in
    let t = c.requires.to in
    let v = c.requires.u in
    let n1 = number_fits c.args.f.from.x f.0 in
    let n2 = number_fits c.args.f.from.y f.1 in
    let n3 = number_fits c.args.f.to.x t.0 in
    let n4 = number_fits c.args.f.to.y t.1 in
    let n5 = number_fits c.args.u.x v.0 in
    let n6 = number_fits c.args.u.y v.1 in
    let d1 = difference_fits c.args.f.from.x c.args.f.to.x f.0 t.0 in
    let d2 = difference_fits c.args.f.from.y c.args.f.to.y f.1 t.1 in
    let d3 = difference_fits c.args.u.x c.args.f.from.x v.0 f.0 in
    let d4 = difference_fits c.args.u.y c.args.f.from.y v.1 f.1 in
    simp to_z-of_z
