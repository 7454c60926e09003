use Rattle.std.proofs.Common.{ℕ, ℤ, ◌*ℤ◌, ◌≡◌, ◌≤◌, ◌∙◌, w32, w64, arith, rules, FitsSigned, to_z, of_z, Ordering, is_lt, nat_cmp, int_cmp}
use Rattle.std.specs.Int.RustNames.{unsigned_abs}
use Rattle.std.specs.Ordering.{ordering_then}
use Rattle.std.proofs.lemmas.Int.{to_z-of_z, fits_signed_mul, ints}
use Rattle.minkowski_obstacles.specs.Merged.{half_turns}
use Rattle.minkowski_obstacles.proofs.DirectionLaws.{compared}
use Rattle.minkowski_obstacles.proofs.direction.by_direction.Goals as goal

wide : (a : ℤ) → FitsSigned w32 a → FitsSigned w64 a
wide a f = omega (arith, ints)

small : (a : ℤ) → FitsSigned w32 a → unsigned_abs a ≤ 2147483648
small a f = omega (arith, ints)

product : (a b r s : ℤ) → FitsSigned w32 a → FitsSigned w32 b → r ≡ to_z w32 (of_z w32 a) → s ≡ to_z w32 (of_z w32 b) → to_z w64 (of_z w64 (to_z w64 (of_z w64 r) *ℤ to_z w64 (of_z w64 s))) ≡ a *ℤ b
product a b r s f g d e =
    let m = fits_signed_mul w64 a b 2147483648 2147483648 (small a f) (small b g) (omega arith) in
    rw (d, e, to_z-of_z w32 a f, to_z-of_z w32 b g, to_z-of_z w64 a (wide a f), to_z-of_z w64 b (wide b g), to_z-of_z w64 (a *ℤ b) m)

joined : (t u v : Ordering) (h k i j : ℕ) (l r m n : ℤ) → t ≡ ordering_then u v → u ≡ nat_cmp h k → v ≡ int_cmp l r → h ≡ i → k ≡ j → l ≡ m → r ≡ n → is_lt t ≡ is_lt (ordering_then (nat_cmp i j) (int_cmp m n))
joined t u v h k i j l r m n e f g a b c d = rw (e, f, g, a, b, c, d)

pub returns : goal.returns
returns c =
    let a = c.args.a.now.along in
    let b = c.args.b.now.along in
    let ax : FitsSigned w32 c.args.a.now.along.x = search rules in
    let ay : FitsSigned w32 c.args.a.now.along.y = search rules in
    let bx : FitsSigned w32 c.args.b.now.along.x = search rules in
    let by : FitsSigned w32 c.args.b.now.along.y = search rules in
    joined c.then.result c.cmp.result c.cmp-2.result c.half_turns.result c.half_turns-2.result (half_turns a) (half_turns b) _ _ (a.y *ℤ b.x) (a.x *ℤ b.y)
    c.then.ensures c.cmp.ensures c.cmp-2.ensures c.half_turns.ensures c.half_turns-2.ensures
    (product a.y b.x c.from.result c.from-2.result ay bx c.from.ensures c.from-2.ensures) (product a.x b.y c.from-3.result c.from-4.result ax by c.from-3.ensures c.from-4.ensures)
    ∙ compared a b
