-- A point that is strictly inside a closed line lies on the inner side of an edge for which no vertex does: there is none.
use Rattle.std.proofs.Common.{◌≡◌, sym, subst, arith, List, [], ◌∷◌}
use Rattle.shape_exact.proofs.RingLaws.{ring, linear, mul-neg, not_negative_mul, positive_mul, positive_cancel, sum_positive}
use lib.IntN.{ℤ, pos, ◌+ℤ◌, ◌-ℤ◌, ◌*ℤ◌, neg_ℤ}
use lib.Signed.{◌<ℤ◌, ◌≤ℤ◌}
use Rattle.shape_exact.specs.declared.point.Point.{Point}
use Rattle.shape_exact.specs.Plane.{Edge, Mark, side, links, Every, Inside, mark_of}
use Rattle.shape_exact.proofs.LinearLaws.{plucker}
use Rattle.shape_exact.proofs.LineLaws.{every_then}

-- n times twice the area of z, a and b, in whole numbers
abbrev turn : Mark → Point → Point → ℤ
turn z a b = (z.n *ℤ a.x -ℤ z.x) *ℤ (z.n *ℤ b.y -ℤ z.y) -ℤ (z.n *ℤ a.y -ℤ z.y) *ℤ (z.n *ℤ b.x -ℤ z.x)

-- how far v is beyond z, away from the inner side of e
abbrev beyond : Edge → Mark → Point → ℤ
beyond e z v = (z.n *ℤ v.x -ℤ z.x) *ℤ (e.to.y -ℤ e.from.y) -ℤ (z.n *ℤ v.y -ℤ z.y) *ℤ (e.to.x -ℤ e.from.x)

turn-side : (z : Mark) (a b : Point) → z.n *ℤ side (record { from = a; to = b }) z ≡ turn z a b
turn-side z a b = simp ring (omega (arith, linear))

beyond-side_at : (ax ay bx by x y n vx vy : ℤ) → (n *ℤ vx -ℤ x) *ℤ (by -ℤ ay) -ℤ (n *ℤ vy -ℤ y) *ℤ (bx -ℤ ax) ≡ (bx -ℤ ax) *ℤ (y -ℤ n *ℤ ay) -ℤ (by -ℤ ay) *ℤ (x -ℤ n *ℤ ax) -ℤ n *ℤ ((bx -ℤ ax) *ℤ (vy -ℤ pos 1 *ℤ ay) -ℤ (by -ℤ ay) *ℤ (vx -ℤ pos 1 *ℤ ax))
beyond-side_at ax ay bx by x y n vx vy = simp ring (omega (arith, linear))

beyond-side : (e : Edge) (z : Mark) (v : Point) → beyond e z v ≡ side e z -ℤ z.n *ℤ side e (mark_of v)
beyond-side e z v = beyond-side_at e.from.x e.from.y e.to.x e.to.y z.x z.y z.n v.x v.y

turn_flip : (z : Mark) (a b : Point) → turn z b a ≡ neg_ℤ (turn z a b)
turn_flip z a b = simp ring (omega (arith, linear))

turn_self : (z : Mark) (a : Point) → turn z a a ≡ pos 0
turn_self z a = simp ring (omega (arith, linear))

turn_step : (e : Edge) (z : Mark) (a b c : Point) → beyond e z b *ℤ turn z a c ≡ turn z a b *ℤ beyond e z c +ℤ beyond e z a *ℤ turn z b c
turn_step e z a b c = plucker (z.n *ℤ a.x -ℤ z.x) (z.n *ℤ a.y -ℤ z.y) (z.n *ℤ b.x -ℤ z.x) (z.n *ℤ b.y -ℤ z.y) (z.n *ℤ c.x -ℤ z.x) (z.n *ℤ c.y -ℤ z.y) (e.to.x -ℤ e.from.x) (e.to.y -ℤ e.from.y)

-- from the first vertex the turn to each vertex is above 0, so the last edge cannot close the line
loop_goes : (e : Edge) (z : Mark) (first p : Point) (qs : List Point) → pos 0 <ℤ beyond e z first → pos 0 <ℤ beyond e z p → pos 0 <ℤ turn z first p → Every (λ v. pos 0 <ℤ beyond e z v) qs → Every (λ d. pos 0 <ℤ turn z d.from d.to) (links first p qs) → ⊥
loop_goes e z first p [] bf bp t bs ts =
    let back = ts.0 in
    let flip = turn_flip z first p in
    absurd (not_above (turn z first p) (turn z p first) flip t back)
  where
    not_above : (a b : ℤ) → b ≡ neg_ℤ a → pos 0 <ℤ a → pos 0 <ℤ b → ⊥
    not_above a b e h k = omega (arith, linear)
loop_goes e z first p (q ∷ qs) bf bp t bs ts =
    let step = turn_step e z first p q in
    let both = sum_positive _ _ (positive_mul _ _ t bs.0) (positive_mul _ _ bf ts.0) in
    let more = positive_cancel (beyond e z p) (turn z first q) bp (subst (λ (w : ℤ). pos 0 <ℤ w) (sym step) both) in
    loop_goes e z first q qs bf bs.0 more bs.1 ts.1

-- a vertex that is not on the inner side of e is beyond z
outside_beyond : (e : Edge) (z : Mark) (v : Point) → pos 0 <ℤ z.n → pos 0 <ℤ side e z → side e (mark_of v) ≤ℤ pos 0 → pos 0 <ℤ beyond e z v
outside_beyond e z v n s o = subst (λ (w : ℤ). pos 0 <ℤ w) (sym (beyond-side e z v)) (far z.n (side e z) (side e (mark_of v)) n s o)
  where
    far : (n s o : ℤ) → pos 0 <ℤ n → pos 0 <ℤ s → o ≤ℤ pos 0 → pos 0 <ℤ (s -ℤ n *ℤ o)
    far n s o hn hs ho =
        let m = not_negative_mul n (neg_ℤ o) (omega (arith, linear)) (omega (arith, linear)) in
        let m' : pos 0 ≤ℤ neg_ℤ (n *ℤ o) = simp (← mul-neg n o) m in
        omega (arith, linear)

-- where an edge has no vertex of a closed line on its inner side, no point is strictly inside the line and on its inner side
pub separated : (e : Edge) (z : Mark) (p : Point) (ps : List Point) → Inside z (p ∷ ps) → pos 0 <ℤ side e z → Every (λ v. side e (mark_of v) ≤ℤ pos 0) (p ∷ ps) → ⊥
separated e z p [] i s o =
    let t : pos 0 <ℤ turn z p p = subst (λ (w : ℤ). pos 0 <ℤ w) (turn-side z p p) (positive_mul _ _ i.0 i.1.0) in
    none (turn z p p) (turn_self z p) t
  where
    none : (a : ℤ) → a ≡ pos 0 → pos 0 <ℤ a → ⊥
    none a e h = omega (arith, linear)
separated e z p (q ∷ qs) i s o =
    let b = every_then (λ v. side e (mark_of v) ≤ℤ pos 0) (λ v. pos 0 <ℤ beyond e z v) (λ v. outside_beyond e z v i.0 s) (p ∷ q ∷ qs) o in
    let t = every_then (λ d. pos 0 <ℤ side d z) (λ d. pos 0 <ℤ turn z d.from d.to) (λ d h. subst (λ (w : ℤ). pos 0 <ℤ w) (turn-side z d.from d.to) (positive_mul _ _ i.0 h)) (links p p (q ∷ qs)) i.1 in
    loop_goes e z p q qs b.0 b.1.0 t.0 b.1.1 t.1
