use Rattle.std.proofs.Common.{ℤ, ◌+ℤ◌, ◌-ℤ◌, ◌*ℤ◌, ◌≤◌, ◌≡◌, w32, w64, arith, FitsSigned}
use Rattle.std.specs.Int.RustNames.{unsigned_abs}
use Rattle.std.proofs.lemmas.Int.{to_z-of_z, ints}
use Rattle.minkowski_obstacles.proofs.obstacle.bound.Goals as goal

small_fits : (a : ℤ) → unsigned_abs a ≤ 4000 → FitsSigned w32 a
small_fits a h = omega (arith, ints)

distance_fits : (y a r s : ℤ) → FitsSigned w32 y → unsigned_abs a ≤ 4000 → r ≡ y → s ≡ a → FitsSigned w64 (r -ℤ s)
distance_fits y a r s f h e g = omega (arith, ints)

sum_fits : (a b : ℤ) → unsigned_abs a ≤ 8800000000000 → unsigned_abs b ≤ 8800000000000 → FitsSigned w64 (a +ℤ b)
sum_fits a b h k = omega (arith, ints)

joined : (ax y aty ay atx f g h p q : ℤ) → f ≡ y → g ≡ aty → h ≡ atx → p ≡ ax *ℤ (f -ℤ g) → q ≡ ay *ℤ h → p +ℤ q ≡ ax *ℤ (y -ℤ aty) +ℤ ay *ℤ atx
joined ax y aty ay atx f g h p q a b c d e = cc

pub returns-clause-value : goal.returns-clause-value
returns-clause-value c =
    let s = c.args.s.now in
    let fy = c.ranges.y in
    let f1 = small_fits s.at.x c.requires.0.0 in
    let f2 = small_fits s.at.y c.requires.0.1 in
    let f3 = small_fits s.along.x c.requires.1.0 in
    let f4 = small_fits s.along.y c.requires.1.1 in
    let r1 : FitsSigned w64 c.from.result = record { sfits = c.from.type_inv } in
    let r2 : FitsSigned w64 c.from-2.result = record { sfits = c.from-2.type_inv } in
    let r3 : FitsSigned w64 c.from-3.result = record { sfits = c.from-3.type_inv } in
    let q1 : FitsSigned w64 c.scaled.result = record { sfits = c.scaled.type_inv } in
    let q2 : FitsSigned w64 c.scaled-2.result = record { sfits = c.scaled-2.type_inv } in
    let e1 = simp to_z-of_z at c.from.ensures in
    let e2 = simp to_z-of_z at c.from-2.ensures in
    let e3 = simp to_z-of_z at c.from-3.ensures in
    let d = distance_fits c.args.y s.at.y c.from.result c.from-2.result fy c.requires.0.1 e1 e2 in
    let v1 = simp to_z-of_z at c.scaled.ensures.value in
    let v2 = simp to_z-of_z at c.scaled-2.ensures.value in
    let t = sum_fits c.scaled.result c.scaled-2.result c.scaled.ensures.limit c.scaled-2.ensures.limit in
    simp to_z-of_z (joined s.along.x c.args.y s.at.y s.along.y s.at.x c.from.result c.from-2.result c.from-3.result c.scaled.result c.scaled-2.result e1 e2 e3 v1 v2)
