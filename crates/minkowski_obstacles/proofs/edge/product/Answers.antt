use Rattle.std.proofs.Common.{ℤ, ◌-ℤ◌, ◌*ℤ◌, ◌≤◌, w32, arith, FitsSigned}
use Rattle.std.specs.Int.RustNames.{unsigned_abs}
use Rattle.std.proofs.lemmas.Int.{to_z-of_z, fits_signed_mul, unsigned_abs-mul, ints}
use Rattle.std.proofs.Math.Nat.{mul-le-mul}
use Rattle.minkowski_obstacles.proofs.edge.product.Goals as goal

fits : (a b : ℤ) → unsigned_abs a ≤ 24000 → unsigned_abs b ≤ 24000 → FitsSigned w32 (a *ℤ b)
fits a b h k = fits_signed_mul w32 a b 24000 24000 h k (omega arith)

small : (a b : ℤ) → unsigned_abs a ≤ 24000 → unsigned_abs b ≤ 24000 → unsigned_abs (a *ℤ b) ≤ 576000000
small a b h k = omega (arith, unsigned_abs-mul a b, mul-le-mul h k)

apart_fits : (a b : ℤ) → unsigned_abs a ≤ 576000000 → unsigned_abs b ≤ 576000000 → FitsSigned w32 (a -ℤ b)
apart_fits a b h k = omega (arith, ints)

pub overflow_mul-result : goal.overflow_mul-result
overflow_mul-result c = let x = c.ranges.ax in let y = c.ranges.by in let f = fits c.args.ax c.args.by c.requires.ax c.requires.by in simp to_z-of_z f

pub overflow_mul-result-2 : goal.overflow_mul-result-2
overflow_mul-result-2 c = let x = c.ranges.ay in let y = c.ranges.bx in let f = fits c.args.ay c.args.bx c.requires.ay c.requires.bx in simp to_z-of_z f

pub overflow_sub-result : goal.overflow_sub-result
overflow_sub-result c =
    let x = c.ranges.ax in let y = c.ranges.by in let z = c.ranges.ay in let w = c.ranges.bx in
    let f = fits c.args.ax c.args.by c.requires.ax c.requires.by in
    let g = fits c.args.ay c.args.bx c.requires.ay c.requires.bx in
    let d = apart_fits (c.args.ax *ℤ c.args.by) (c.args.ay *ℤ c.args.bx) (small c.args.ax c.args.by c.requires.ax c.requires.by) (small c.args.ay c.args.bx c.requires.ay c.requires.bx) in
    simp to_z-of_z d

pub returns : goal.returns
returns c =
    let x = c.ranges.ax in let y = c.ranges.by in let z = c.ranges.ay in let w = c.ranges.bx in
    let f = fits c.args.ax c.args.by c.requires.ax c.requires.by in
    let g = fits c.args.ay c.args.bx c.requires.ay c.requires.bx in
    let d = apart_fits (c.args.ax *ℤ c.args.by) (c.args.ay *ℤ c.args.bx) (small c.args.ax c.args.by c.requires.ax c.requires.by) (small c.args.ay c.args.bx c.requires.ay c.requires.bx) in
    simp to_z-of_z
