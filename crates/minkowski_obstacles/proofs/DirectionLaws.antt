-- The order of directions is one in which any two compare, and those that tie are the same.
use Rattle.std.proofs.Common.{◌≡◌, refl, sym, ap, ◌∙◌, subst, arith, ℕ, ◌<◌, ◌≤◌, Bool, true, false, cond, ltb, eqb, ◌⊎◌, inl, inr}
use Rattle.std.specs.Prelude.{◌&&◌, ◌||◌}
use Rattle.std.specs.Cmp.{IsStrictWeakOrder}
use Rattle.std.specs.Ordering.{int_eq, is_lt, ordering_then, nat_cmp, int_cmp}
use Rattle.std.specs.declared.cmp.Ordering.TheVariants.{Less, Equal, Greater}
use Rattle.std.proofs.lemmas.Bool.{false≢true}
use Rattle.std.proofs.lemmas.Bool.Decides.{Decides-int_eq}
use borrow.Author.Tests.{ltb-true, ltb-false, eqb-true, eq-eqb}
use lib.IntN.{ℤ, pos, ◌+ℤ◌, ◌-ℤ◌, ◌*ℤ◌, neg_ℤ}
use lib.Signed.{◌<ℤ◌, ◌≤ℤ◌, lt_z}
use Rattle.common_lists.proofs.ListLaws.{both_true}
use Rattle.common_lists.proofs.NumberLaws.{square_weak}
use Rattle.shape_exact.specs.declared.point.Point.{Point}
use Rattle.shape_exact.proofs.RingLaws.{ring, linear, zero-mul, positive_mul, not_negative_mul, positive_cancel}
use Rattle.shape_exact.proofs.LineLaws.{Sign, sign, above, none, below}
use Rattle.minkowski_obstacles.specs.declared.side.Side.{Side}
use Rattle.minkowski_obstacles.specs.Merged.{is_upper, is_lower, half_turns, leftward, comes_before}

-- ---- tests
or_cases : (a b : Bool) → (a || b) ≡ true → (a ≡ true) ⊎ (b ≡ true)
or_cases true b e = inl refl
or_cases false b e = inr e

or_none : (a b : Bool) → (a || b) ≡ false → (a ≡ false) × (b ≡ false)
or_none true b e = absurd (false≢true (sym e))
or_none false b e = (refl, e)

and_none : (a b : Bool) → (a && b) ≡ false → (a ≡ false) ⊎ (b ≡ false)
and_none true b e = inr e
and_none false b e = inl refl

-- ---- the half of a turn in which a direction lies
-- not down, and to the right where it is level
abbrev pub Upper : ℤ → ℤ → Type 0
Upper x y = (pos 0 ≤ℤ y) × (y ≡ pos 0 → pos 0 <ℤ x)

-- not up, and to the left where it is level
abbrev pub Lower : ℤ → ℤ → Type 0
Lower x y = (y ≤ℤ pos 0) × (y ≡ pos 0 → x <ℤ pos 0)

upper_out : (x y : ℤ) → (lt_z (pos 0) y || (int_eq y (pos 0) && lt_z (pos 0) x)) ≡ true → Upper x y
upper_out x y e = by (or_cases (lt_z (pos 0) y) (int_eq y (pos 0) && lt_z (pos 0) x) e)
  where
    by : (lt_z (pos 0) y ≡ true) ⊎ ((int_eq y (pos 0) && lt_z (pos 0) x) ≡ true) → Upper x y
    by (inl u) = (omega (arith, linear), λ z. omega (arith, linear))
    by (inr v) =
        let w = both_true (int_eq y (pos 0)) (lt_z (pos 0) x) v in
        let r : pos 0 <ℤ x = (let a = w.1 in omega (arith, linear)) in
        let z : y ≡ pos 0 = (Decides-int_eq y (pos 0)).0 w.0 in
        (omega (arith, linear), λ z. r)

upper_not : (x y : ℤ) → (lt_z (pos 0) y || (int_eq y (pos 0) && lt_z (pos 0) x)) ≡ false → (y ≤ℤ pos 0) × (y ≡ pos 0 → x ≤ℤ pos 0)
upper_not x y e = (let a = w.0 in omega (arith, linear), λ z. by z (and_none (int_eq y (pos 0)) (lt_z (pos 0) x) w.1))
  where
    w : (lt_z (pos 0) y ≡ false) × ((int_eq y (pos 0) && lt_z (pos 0) x) ≡ false)
    w = or_none (lt_z (pos 0) y) (int_eq y (pos 0) && lt_z (pos 0) x) e

    by : y ≡ pos 0 → (int_eq y (pos 0) ≡ false) ⊎ (lt_z (pos 0) x ≡ false) → x ≤ℤ pos 0
    by z (inl f) = absurd (false≢true (sym f ∙ (Decides-int_eq y (pos 0)).1 z))
    by z (inr g) = omega (arith, linear)

lower_out : (x y : ℤ) → (lt_z y (pos 0) || (int_eq y (pos 0) && lt_z x (pos 0))) ≡ true → Lower x y
lower_out x y e = by (or_cases (lt_z y (pos 0)) (int_eq y (pos 0) && lt_z x (pos 0)) e)
  where
    by : (lt_z y (pos 0) ≡ true) ⊎ ((int_eq y (pos 0) && lt_z x (pos 0)) ≡ true) → Lower x y
    by (inl u) = (omega (arith, linear), λ z. omega (arith, linear))
    by (inr v) =
        let w = both_true (int_eq y (pos 0)) (lt_z x (pos 0)) v in
        let r : x <ℤ pos 0 = (let a = w.1 in omega (arith, linear)) in
        let z : y ≡ pos 0 = (Decides-int_eq y (pos 0)).0 w.0 in
        (omega (arith, linear), λ z. r)

lower_not : (x y : ℤ) → (lt_z y (pos 0) || (int_eq y (pos 0) && lt_z x (pos 0))) ≡ false → (pos 0 ≤ℤ y) × (y ≡ pos 0 → pos 0 ≤ℤ x)
lower_not x y e = (let a = w.0 in omega (arith, linear), λ z. by z (and_none (int_eq y (pos 0)) (lt_z x (pos 0)) w.1))
  where
    w : (lt_z y (pos 0) ≡ false) × ((int_eq y (pos 0) && lt_z x (pos 0)) ≡ false)
    w = or_none (lt_z y (pos 0)) (int_eq y (pos 0) && lt_z x (pos 0)) e

    by : y ≡ pos 0 → (int_eq y (pos 0) ≡ false) ⊎ (lt_z x (pos 0) ≡ false) → pos 0 ≤ℤ x
    by z (inl f) = absurd (false≢true (sym f ∙ (Decides-int_eq y (pos 0)).1 z))
    by z (inr g) = omega (arith, linear)

-- the three cases of a direction
pub data Way (d : Point) : Type 0 where
  up : half_turns d ≡ 0 → Upper d.x d.y → Way d
  down : half_turns d ≡ 1 → Lower d.x d.y → Way d
  nowhere : half_turns d ≡ 2 → d.x ≡ pos 0 → d.y ≡ pos 0 → Way d

abbrev halves : Bool → Bool → ℕ
halves t u = cond t 0 (cond u 1 2)

pub way : (d : Point) → Way d
way d = by (is_upper d) refl (is_lower d) refl
  where
    level : (a : ℤ) → a ≤ℤ pos 0 → pos 0 ≤ℤ a → a ≡ pos 0
    level a h k = omega (arith, linear)

    flat : is_upper d ≡ false → is_lower d ≡ false → (d.x ≡ pos 0) × (d.y ≡ pos 0)
    flat e f =
        let a = upper_not d.x d.y e in
        let b = lower_not d.x d.y f in
        let z = level d.y a.0 b.0 in
        (level d.x (a.1 z) (b.1 z), z)

    by : (t : Bool) → is_upper d ≡ t → (u : Bool) → is_lower d ≡ u → Way d
    by true e u f = up (ap (λ (b : Bool). halves b (is_lower d)) e) (upper_out d.x d.y e)
    by false e true f = down (ap (λ (b : Bool). halves b (is_lower d)) e ∙ ap (λ (b : Bool). halves false b) f) (lower_out d.x d.y f)
    by false e false f = nowhere (ap (λ (b : Bool). halves b (is_lower d)) e ∙ ap (λ (b : Bool). halves false b) f) (flat e f).0 (flat e f).1

upper_at : (d : Point) → half_turns d ≡ 0 → Upper d.x d.y
upper_at d h = by (way d)
  where
    by : Way d → Upper d.x d.y
    by (up k u) = u
    by (down k l) = absurd (let n = sym h ∙ k in omega arith)
    by (nowhere k x y) = absurd (let n = sym h ∙ k in omega arith)

lower_at : (d : Point) → half_turns d ≡ 1 → Lower d.x d.y
lower_at d h = by (way d)
  where
    by : Way d → Lower d.x d.y
    by (up k u) = absurd (let n = sym h ∙ k in omega arith)
    by (down k l) = l
    by (nowhere k x y) = absurd (let n = sym h ∙ k in omega arith)

-- ---- three directions of one half of a turn
negated : (a b c d : ℤ) → neg_ℤ a *ℤ neg_ℤ d -ℤ neg_ℤ b *ℤ neg_ℤ c ≡ a *ℤ d -ℤ b *ℤ c
negated a b c d = simp ring

flipped : (x y : ℤ) → Lower x y → Upper (neg_ℤ x) (neg_ℤ y)
flipped x y l = (let a = l.0 in omega (arith, linear), λ z. under x (l.1 (zero y z)))
  where
    zero : (a : ℤ) → neg_ℤ a ≡ pos 0 → a ≡ pos 0
    zero a e = omega (arith, linear)

    under : (a : ℤ) → a <ℤ pos 0 → pos 0 <ℤ neg_ℤ a
    under a h = omega (arith, linear)

not_above : (a : ℤ) → (pos 0 <ℤ a → ⊥) → a ≤ℤ pos 0
not_above a h = by (lt_z (pos 0) a) refl
  where
    by : (t : Bool) → lt_z (pos 0) a ≡ t → a ≤ℤ pos 0
    by true e = absurd (h (omega (arith, linear)))
    by false e = omega (arith, linear)

chain_at : (ux uy vx vy wx wy : ℤ) → vy *ℤ (ux *ℤ wy -ℤ uy *ℤ wx) ≡ uy *ℤ (vx *ℤ wy -ℤ vy *ℤ wx) +ℤ wy *ℤ (ux *ℤ vy -ℤ uy *ℤ vx)
chain_at ux uy vx vy wx wy = simp ring (omega (arith, linear))

upper_chain : (ux uy vx vy wx wy : ℤ) → Upper ux uy → Upper vx vy → Upper wx wy → (ux *ℤ vy -ℤ uy *ℤ vx) ≤ℤ pos 0 → (vx *ℤ wy -ℤ vy *ℤ wx) ≤ℤ pos 0 → (ux *ℤ wy -ℤ uy *ℤ wx) ≤ℤ pos 0
upper_chain ux uy vx vy wx wy u v w a b = by (sign vy)
  where
    below_none : (k p q : ℤ) → k ≡ p +ℤ q → pos 0 ≤ℤ neg_ℤ p → pos 0 ≤ℤ neg_ℤ q → pos 0 <ℤ k → ⊥
    below_none k p q e f g h = omega (arith, linear)

    weak : (k p : ℤ) → pos 0 ≤ℤ k → p ≤ℤ pos 0 → pos 0 ≤ℤ neg_ℤ (k *ℤ p)
    weak k p h l = let m = not_negative_mul k (neg_ℤ p) h (omega (arith, linear)) in let e : k *ℤ neg_ℤ p ≡ neg_ℤ (k *ℤ p) = simp ring in omega (arith, linear)

    product : (k m : ℤ) → pos 0 <ℤ k → (k *ℤ m) ≤ℤ pos 0 → m ≤ℤ pos 0
    product k m h l = not_above m (λ n. let r = positive_mul k m h n in omega (arith, linear))

    -- v points straight to the right: so does w
    level : vy ≡ pos 0 → (ux *ℤ wy -ℤ uy *ℤ wx) ≤ℤ pos 0
    level z =
        let vw : (vx *ℤ wy -ℤ pos 0 *ℤ wx) ≤ℤ pos 0 = subst (λ (k : ℤ). (vx *ℤ wy -ℤ k *ℤ wx) ≤ℤ pos 0) z b in
        let n = zero-mul wx in
        let low = product vx wy (v.1 z) (omega (arith, linear)) in
        let wz : wy ≡ pos 0 = (let l = w.0 in omega (arith, linear)) in
        let wr = w.1 wz in
        let m = not_negative_mul uy wx u.0 (omega (arith, linear)) in
        let e : ux *ℤ pos 0 ≡ pos 0 = simp ring in
        subst (λ (k : ℤ). (ux *ℤ k -ℤ uy *ℤ wx) ≤ℤ pos 0) (sym wz) (omega (arith, linear))

    by : Sign vy → (ux *ℤ wy -ℤ uy *ℤ wx) ≤ℤ pos 0
    by (above h) = not_above (ux *ℤ wy -ℤ uy *ℤ wx) (λ n. below_none (vy *ℤ (ux *ℤ wy -ℤ uy *ℤ wx)) (uy *ℤ (vx *ℤ wy -ℤ vy *ℤ wx)) (wy *ℤ (ux *ℤ vy -ℤ uy *ℤ vx)) (chain_at ux uy vx vy wx wy) (weak uy (vx *ℤ wy -ℤ vy *ℤ wx) u.0 b) (weak wy (ux *ℤ vy -ℤ uy *ℤ vx) w.0 a) (positive_mul vy (ux *ℤ wy -ℤ uy *ℤ wx) h n))
    by (none z) = level z
    by (below h) = absurd (let k = v.0 in omega (arith, linear))

lower_chain : (ux uy vx vy wx wy : ℤ) → Lower ux uy → Lower vx vy → Lower wx wy → (ux *ℤ vy -ℤ uy *ℤ vx) ≤ℤ pos 0 → (vx *ℤ wy -ℤ vy *ℤ wx) ≤ℤ pos 0 → (ux *ℤ wy -ℤ uy *ℤ wx) ≤ℤ pos 0
lower_chain ux uy vx vy wx wy u v w a b =
    subst (λ (k : ℤ). k ≤ℤ pos 0) (negated ux uy wx wy)
    (upper_chain (neg_ℤ ux) (neg_ℤ uy) (neg_ℤ vx) (neg_ℤ vy) (neg_ℤ wx) (neg_ℤ wy) (flipped ux uy u) (flipped vx vy v) (flipped wx wy w)
    (subst (λ (k : ℤ). k ≤ℤ pos 0) (sym (negated ux uy vx vy)) a) (subst (λ (k : ℤ). k ≤ℤ pos 0) (sym (negated vx vy wx wy)) b))

-- ---- two directions of one half of a turn, neither to the left of the other
dot_at : (ux uy vx vy : ℤ) → uy *ℤ (ux *ℤ vx +ℤ uy *ℤ vy) ≡ (ux *ℤ ux +ℤ uy *ℤ uy) *ℤ vy -ℤ ux *ℤ (ux *ℤ vy -ℤ uy *ℤ vx)
dot_at ux uy vx vy = simp ring (omega (arith, linear))

upper_dot : (ux uy vx vy : ℤ) → Upper ux uy → Upper vx vy → ux *ℤ vy -ℤ uy *ℤ vx ≡ pos 0 → pos 0 <ℤ (ux *ℤ vx +ℤ uy *ℤ vy)
upper_dot ux uy vx vy u v e = by (sign uy) (sign vy)
  where
    clear : (a b c k : ℤ) → k ≡ a -ℤ b *ℤ c → c ≡ pos 0 → k ≡ a
    clear a b c k f z = let g : b *ℤ pos 0 ≡ pos 0 = simp ring in let h = ap (λ (m : ℤ). b *ℤ m) z in omega (arith, linear)

    by : Sign uy → Sign vy → pos 0 <ℤ (ux *ℤ vx +ℤ uy *ℤ vy)
    by (above h) (above k) =
        let s = square_weak ux in
        let t = positive_mul uy uy h h in
        let n = positive_mul (ux *ℤ ux +ℤ uy *ℤ uy) vy (omega (arith, linear)) k in
        let f = clear ((ux *ℤ ux +ℤ uy *ℤ uy) *ℤ vy) ux (ux *ℤ vy -ℤ uy *ℤ vx) (uy *ℤ (ux *ℤ vx +ℤ uy *ℤ vy)) (dot_at ux uy vx vy) e in
        positive_cancel uy (ux *ℤ vx +ℤ uy *ℤ vy) h (subst (λ (m : ℤ). pos 0 <ℤ m) (sym f) n)
    by (above h) (none z) =
        let m = positive_mul uy vx h (v.1 z) in
        let f : ux *ℤ pos 0 ≡ pos 0 = simp ring in
        let g = ap (λ (k : ℤ). ux *ℤ k) z in
        absurd (omega (arith, linear))
    by (none z) (above k) =
        let m = positive_mul ux vy (u.1 z) k in
        let f = zero-mul vx in
        let g = ap (λ (k : ℤ). k *ℤ vx) z in
        absurd (omega (arith, linear))
    by (none z) (none y) =
        let m = positive_mul ux vx (u.1 z) (v.1 y) in
        let f = zero-mul vy in
        let g = ap (λ (k : ℤ). k *ℤ vy) z in
        omega (arith, linear)
    by (below h) t = absurd (let k = u.0 in omega (arith, linear))
    by (above h) (below k) = absurd (let l = v.0 in omega (arith, linear))
    by (none z) (below k) = absurd (let l = v.0 in omega (arith, linear))

lower_dot : (ux uy vx vy : ℤ) → Lower ux uy → Lower vx vy → ux *ℤ vy -ℤ uy *ℤ vx ≡ pos 0 → pos 0 <ℤ (ux *ℤ vx +ℤ uy *ℤ vy)
lower_dot ux uy vx vy u v e =
    let d = upper_dot (neg_ℤ ux) (neg_ℤ uy) (neg_ℤ vx) (neg_ℤ vy) (flipped ux uy u) (flipped vx vy v) (negated ux uy vx vy ∙ e) in
    let f : neg_ℤ ux *ℤ neg_ℤ vx +ℤ neg_ℤ uy *ℤ neg_ℤ vy ≡ ux *ℤ vx +ℤ uy *ℤ vy = simp ring in
    subst (λ (k : ℤ). pos 0 <ℤ k) f d

-- ---- the order
not_before : (h k : ℕ) (t : ℤ) → (ltb h k || (eqb h k && lt_z (pos 0) t)) ≡ false → (k ≤ h) × (h ≡ k → t ≤ℤ pos 0)
not_before h k t e = (ltb-false h k w.0, λ z. by z (and_none (eqb h k) (lt_z (pos 0) t) w.1))
  where
    w : (ltb h k ≡ false) × ((eqb h k && lt_z (pos 0) t) ≡ false)
    w = or_none (ltb h k) (eqb h k && lt_z (pos 0) t) e

    by : h ≡ k → (eqb h k ≡ false) ⊎ (lt_z (pos 0) t ≡ false) → t ≤ℤ pos 0
    by z (inl f) = absurd (false≢true (sym f ∙ eq-eqb h k z))
    by z (inr g) = omega (arith, linear)

before_out : (h k : ℕ) (t : ℤ) → (ltb h k || (eqb h k && lt_z (pos 0) t)) ≡ true → (h < k) ⊎ ((h ≡ k) × (pos 0 <ℤ t))
before_out h k t e = by (or_cases (ltb h k) (eqb h k && lt_z (pos 0) t) e)
  where
    by : (ltb h k ≡ true) ⊎ ((eqb h k && lt_z (pos 0) t) ≡ true) → (h < k) ⊎ ((h ≡ k) × (pos 0 <ℤ t))
    by (inl f) = inl (ltb-true h k f)
    by (inr g) = let w = both_true (eqb h k) (lt_z (pos 0) t) g in inr (eqb-true h k w.0, let a = w.1 in omega (arith, linear))

not_before_in : (h k : ℕ) (t : ℤ) → k ≤ h → (h ≡ k → t ≤ℤ pos 0) → (ltb h k || (eqb h k && lt_z (pos 0) t)) ≡ false
not_before_in h k t l f = by (ltb h k || (eqb h k && lt_z (pos 0) t)) refl
  where
    not_both : (a : ℤ) → a ≤ℤ pos 0 → pos 0 <ℤ a → ⊥
    not_both a m n = omega (arith, linear)

    refuse : (h < k) ⊎ ((h ≡ k) × (pos 0 <ℤ t)) → ⊥
    refuse (inl m) = omega arith
    refuse (inr m) = not_both t (f m.0) m.1

    by : (b : Bool) → (ltb h k || (eqb h k && lt_z (pos 0) t)) ≡ b → (ltb h k || (eqb h k && lt_z (pos 0) t)) ≡ false
    by true e = absurd (refuse (before_out h k t e))
    by false e = e

turned_back : (ax ay bx by : ℤ) → bx *ℤ ay -ℤ by *ℤ ax ≡ neg_ℤ (ax *ℤ by -ℤ ay *ℤ bx)
turned_back ax ay bx by = simp ring (omega (arith, linear))

pub one_way : (d e : Point) → comes_before d e ≡ true → comes_before e d ≡ false
one_way d e b = by (half_turns d) (half_turns e) (leftward d e) (leftward e d) (turned_back d.x d.y e.x e.y) (before_out (half_turns d) (half_turns e) (leftward d e) b)
  where
    by : (h k : ℕ) (t r : ℤ) → r ≡ neg_ℤ t → (h < k) ⊎ ((h ≡ k) × (pos 0 <ℤ t)) → (ltb k h || (eqb k h && lt_z (pos 0) r)) ≡ false
    by h k t r f (inl l) = not_before_in k h r (omega arith) (λ z. absurd (omega arith))
    by h k t r f (inr m) = let a = m.1 in not_before_in k h r (let n = m.0 in omega arith) (λ z. omega (arith, linear))

-- three directions of one half, each of the first two with none of the next to its left
of_one_half : (d e f : Point) → half_turns d ≡ half_turns e → half_turns e ≡ half_turns f → leftward d e ≤ℤ pos 0 → leftward e f ≤ℤ pos 0 → leftward d f ≤ℤ pos 0
of_one_half d e f p q a b = by (way d)
  where
    flat : (x y c g : ℤ) → x ≡ pos 0 → y ≡ pos 0 → (x *ℤ c -ℤ y *ℤ g) ≤ℤ pos 0
    flat x y c g m n = rw (m, n, zero-mul c, zero-mul g) (omega (arith, linear))

    by : Way d → leftward d f ≤ℤ pos 0
    by (up h u) = upper_chain d.x d.y e.x e.y f.x f.y u (upper_at e (sym p ∙ h)) (upper_at f (sym q ∙ sym p ∙ h)) a b
    by (down h l) = lower_chain d.x d.y e.x e.y f.x f.y l (lower_at e (sym p ∙ h)) (lower_at f (sym q ∙ sym p ∙ h)) a b
    by (nowhere h x y) = flat d.x d.y f.y f.x x y

pub chain : (d e f : Point) → comes_before d e ≡ false → comes_before e f ≡ false → comes_before d f ≡ false
chain d e f b c =
    let p = not_before (half_turns d) (half_turns e) (leftward d e) b in
    let q = not_before (half_turns e) (half_turns f) (leftward e f) c in
    not_before_in (half_turns d) (half_turns f) (leftward d f) (down_to (half_turns d) (half_turns e) (half_turns f) p.0 q.0)
    (λ z. let s = same (half_turns d) (half_turns e) (half_turns f) p.0 q.0 z in of_one_half d e f s.0 s.1 (p.1 s.0) (q.1 s.1))
  where
    down_to : (h k l : ℕ) → k ≤ h → l ≤ k → l ≤ h
    down_to h k l m n = omega arith

    same : (h k l : ℕ) → k ≤ h → l ≤ k → h ≡ l → (h ≡ k) × (k ≡ l)
    same h k l m n z = (omega arith, omega arith)

pub by_turn : IsStrictWeakOrder (λ (s t : Side). comes_before s.along t.along)
by_turn = record { one_way = λ s t e. one_way s.along t.along e; chain = λ s t u e f. chain s.along t.along u.along e f }

pub comes_then : (d e f : Point) → comes_before d e ≡ true → comes_before e f ≡ true → comes_before d f ≡ true
comes_then d e f b c = by (comes_before d f) refl
  where
    by : (t : Bool) → comes_before d f ≡ t → comes_before d f ≡ true
    by true g = g
    by false g = absurd (false≢true (sym (chain e d f (one_way d e b) g) ∙ c))

pub not_itself : (d : Point) → comes_before d d ≡ false
not_itself d = by (comes_before d d) refl
  where
    by : (t : Bool) → comes_before d d ≡ t → comes_before d d ≡ false
    by true g = one_way d d g
    by false g = g

-- two directions of which neither comes before the other are one
pub tied : (d e : Point) → comes_before d e ≡ false → comes_before e d ≡ false → half_turns d < 2 → (leftward d e ≡ pos 0) × (pos 0 <ℤ (d.x *ℤ e.x +ℤ d.y *ℤ e.y))
tied d e b c n = (straight, by (way d))
  where
    p : (half_turns e ≤ half_turns d) × (half_turns d ≡ half_turns e → leftward d e ≤ℤ pos 0)
    p = not_before (half_turns d) (half_turns e) (leftward d e) b

    q : (half_turns d ≤ half_turns e) × (half_turns e ≡ half_turns d → leftward e d ≤ℤ pos 0)
    q = not_before (half_turns e) (half_turns d) (leftward e d) c

    both : (h k : ℕ) → k ≤ h → h ≤ k → h ≡ k
    both h k l m = omega arith

    between : (t r : ℤ) → r ≡ neg_ℤ t → t ≤ℤ pos 0 → r ≤ℤ pos 0 → t ≡ pos 0
    between t r f l m = omega (arith, linear)

    same : half_turns d ≡ half_turns e
    same = both (half_turns d) (half_turns e) p.0 q.0

    straight : leftward d e ≡ pos 0
    straight = between (leftward d e) (leftward e d) (turned_back d.x d.y e.x e.y) (p.1 same) (q.1 (sym same))

    not_two : (h : ℕ) → h < 2 → h ≡ 2 → ⊥
    not_two h l m = omega arith

    by : Way d → pos 0 <ℤ (d.x *ℤ e.x +ℤ d.y *ℤ e.y)
    by (up h u) = upper_dot d.x d.y e.x e.y u (upper_at e (sym same ∙ h)) straight
    by (down h l) = lower_dot d.x d.y e.x e.y l (lower_at e (sym same ∙ h)) straight
    by (nowhere h x y) = absurd (not_two (half_turns d) n h)

-- ---- what the comparison of halves and then of products answers
table : (a b c d : Bool) → is_lt (ordering_then (cond a Less (cond b Equal Greater)) (cond c Less (cond d Greater Equal))) ≡ (a || (b && c))
table true b c d = refl
table false false c d = refl
table false true true d = refl
table false true false true = refl
table false true false false = refl

difference : (l r : ℤ) → lt_z l r ≡ lt_z (pos 0) (r -ℤ l)
difference l r = by (lt_z l r) (lt_z (pos 0) (r -ℤ l)) refl refl
  where
    by : (s t : Bool) → lt_z l r ≡ s → lt_z (pos 0) (r -ℤ l) ≡ t → lt_z l r ≡ lt_z (pos 0) (r -ℤ l)
    by true true e f = e ∙ sym f
    by false false e f = e ∙ sym f
    by true false e f = absurd (omega (arith, linear))
    by false true e f = absurd (omega (arith, linear))

pub compared : (d e : Point) → is_lt (ordering_then (nat_cmp (half_turns d) (half_turns e)) (int_cmp (d.y *ℤ e.x) (d.x *ℤ e.y))) ≡ comes_before d e
compared d e =
    table (ltb (half_turns d) (half_turns e)) (eqb (half_turns d) (half_turns e)) (lt_z (d.y *ℤ e.x) (d.x *ℤ e.y)) (lt_z (d.x *ℤ e.y) (d.y *ℤ e.x))
    ∙ ap (λ (b : Bool). ltb (half_turns d) (half_turns e) || (eqb (half_turns d) (half_turns e) && b)) (difference (d.y *ℤ e.x) (d.x *ℤ e.y))
