use Rattle.std.proofs.Common.{ℤ, ◌≤ℤ◌, ◌≡◌, ◌↔◌, w64, arith, FitsSigned, rules}
use Rattle.std.specs.Int.{int_max}
use Rattle.std.proofs.lemmas.Int.{to_z-of_z, ints, clamps}
use Rattle.minkowski_obstacles.proofs.interval.Interval.down_to.Goals as goal

below_max : (low bottom m x : ℤ) → m ≡ int_max low bottom → low ≤ℤ x → bottom ≤ℤ x → m ≤ℤ x
below_max low bottom m x e h k = omega (arith, ints, clamps)

trans : (a b c : ℤ) → a ≤ℤ b → b ≤ℤ c → a ≤ℤ c
trans a b c h k = omega (arith, ints)

down_is : (low bottom high m x : ℤ) → m ≡ int_max low bottom → low ≤ℤ m → bottom ≤ℤ m → ((m ≤ℤ x) × (x ≤ℤ high)) ↔ (((low ≤ℤ x) × (x ≤ℤ high)) × (bottom ≤ℤ x))
down_is low bottom high m x e a b = (λ h. ((trans low m x a h.0, h.1), trans bottom m x b h.0), λ h. (below_max low bottom m x e h.0.0 h.1, h.0.1))

pub returns : goal.returns
returns c = λ x.
    let f1 : FitsSigned w64 c.args.self.low = search rules in
    let f2 : FitsSigned w64 c.args.self.high = search rules in
    let f3 = c.ranges.bottom in
    let r : FitsSigned w64 c.max.result = record { sfits = c.max.type_inv } in
    let e = simp to_z-of_z at c.max.ensures.value in
    let a = simp to_z-of_z at c.max.ensures.self_bound in
    let b = simp to_z-of_z at c.max.ensures.other_bound in
    simp to_z-of_z (down_is c.args.self.low c.args.bottom c.args.self.high c.max.result x e a b)
