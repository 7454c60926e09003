-- A position of the moving shape against a fixed one that stands elsewhere than at (0, 0).
use Rattle.std.proofs.Common.{◌≡◌, ℕ, ◌*◌, ◌<◌, List, refl, sym, ap, ◌∙◌, subst, arith, Option, Some, None, ◌≤◌, ◌↔◌}
use Rattle.std.specs.Prelude.{IsTrue, IfSome, IfNone, int_lt}
use Rattle.std.proofs.lemmas.Int.{by_lt_z}
use Rattle.shape_exact.specs.declared.point.Point.{Point}
use Rattle.shape_exact.specs.Shapes.{Spot, is_inside, side_of, edges, origin}
use Rattle.shape_exact.proofs.RingLaws.{ring, linear}
use Rattle.shape_exact.proofs.CellLaws.{list_all-agree}
use Rattle.minkowski_obstacles.specs.Pairs.{Pair, AreApartAt, Overlap, IsRow, offset}
use Rattle.lattice_free.specs.declared.forbidden.Forbidden.{Forbidden}
use Rattle.lattice_free.specs.Gaps.{IsBetween, Misses}
use Rattle.lattice_free.specs.Clear.{IsClear}
use Rattle.lattice_free.specs.Runs.{place}
use lib.IntN.{ℤ, pos, ◌+ℤ◌, ◌-ℤ◌, ◌*ℤ◌}
use lib.Signed.{◌<ℤ◌, ◌≤ℤ◌}

-- the spot seen from a position
back : Point → Spot → Spot
back at s = record { x = s.x -ℤ pos s.n *ℤ at.x; y = s.y -ℤ pos s.n *ℤ at.y; n = s.n }

part : (z n a w t : ℤ) → z -ℤ n *ℤ (a +ℤ (w +ℤ t)) ≡ (z -ℤ n *ℤ t) -ℤ n *ℤ (a +ℤ w)
part z n a w t = simp ring (omega (arith, linear))

side_back : (a b at w p : Point) (s : Spot) → p.x ≡ w.x +ℤ at.x → p.y ≡ w.y +ℤ at.y → side_of a b p s ≡ side_of a b w (back at s)
unfolding back
side_back a b at w p s ex ey =
    ap (λ (y : ℤ). (b.x -ℤ a.x) *ℤ (s.y -ℤ pos s.n *ℤ (a.y +ℤ y)) -ℤ (b.y -ℤ a.y) *ℤ (s.x -ℤ pos s.n *ℤ (a.x +ℤ p.x))) ey
    ∙ ap (λ (x : ℤ). (b.x -ℤ a.x) *ℤ (s.y -ℤ pos s.n *ℤ (a.y +ℤ (w.y +ℤ at.y))) -ℤ (b.y -ℤ a.y) *ℤ (s.x -ℤ pos s.n *ℤ (a.x +ℤ x))) ex
    ∙ ap (λ (y : ℤ). (b.x -ℤ a.x) *ℤ y -ℤ (b.y -ℤ a.y) *ℤ (s.x -ℤ pos s.n *ℤ (a.x +ℤ (w.x +ℤ at.x)))) (part s.y (pos s.n) a.y w.y at.y)
    ∙ ap (λ (x : ℤ). (b.x -ℤ a.x) *ℤ ((s.y -ℤ pos s.n *ℤ at.y) -ℤ pos s.n *ℤ (a.y +ℤ w.y)) -ℤ (b.y -ℤ a.y) *ℤ x) (part s.x (pos s.n) a.x w.x at.x)

inside_back : (vs : List Point) (at w p : Point) (s : Spot) → p.x ≡ w.x +ℤ at.x → p.y ≡ w.y +ℤ at.y → is_inside vs p s ≡ is_inside vs w (back at s)
inside_back vs at w p s ex ey = list_all-agree (λ e. int_lt (pos 0) (side_of e.0 e.1 p s)) (λ e. int_lt (pos 0) (side_of e.0 e.1 w (back at s))) (edges vs) (λ e. ap (int_lt (pos 0)) (side_back e.0 e.1 at w p s ex ey))

none_more : (a : ℤ) → a ≡ pos 0 +ℤ a
none_more a = omega (arith, linear)

again : (a b : ℤ) → a ≡ (a -ℤ b) +ℤ b
again a b = omega (arith, linear)

-- the offset of a position against another
abbrev pub way_from : Point → Point → Point
way_from at p = offset (p.x -ℤ at.x) (p.y -ℤ at.y)

-- apart at the offset is apart at the positions
pub clear_from : (pair : Pair) (at p : Point) → AreApartAt pair (way_from at p) → IsClear p pair at
unfolding back
clear_from pair at p h = λ s n i j.
    h (back at s) n
    (subst (λ b. IsTrue b) (inside_back pair.fixed at origin at s (none_more at.x) (none_more at.y)) i)
    (subst (λ b. IsTrue b) (inside_back pair.moving at (way_from at p) p s (again p.x at.x) (again p.y at.y)) j)

-- the spot seen from nowhere
forth : Point → Spot → Spot
forth at s = record { x = s.x +ℤ pos s.n *ℤ at.x; y = s.y +ℤ pos s.n *ℤ at.y; n = s.n }

less_more : (a b : ℤ) → (a +ℤ b) -ℤ b ≡ a
less_more a b = omega (arith, linear)

back-forth : (at : Point) (s : Spot) → back at (forth at s) ≡ s
unfolding back forth
back-forth at s = ap (λ (x : ℤ). record { x = x; y = (s.y +ℤ pos s.n *ℤ at.y) -ℤ pos s.n *ℤ at.y; n = s.n }) (less_more s.x (pos s.n *ℤ at.x)) ∙ ap (λ (y : ℤ). record { x = s.x; y = y; n = s.n }) (less_more s.y (pos s.n *ℤ at.y))

-- an overlap at the offset is one at the positions
pub overlap_not : (pair : Pair) (at p : Point) → Overlap pair (way_from at p) → IsClear p pair at → ⊥
unfolding forth
overlap_not pair at p o c =
    c (forth at o.0) o.1
    (subst (λ b. IsTrue b) (ap (is_inside pair.fixed origin) (sym (back-forth at o.0)) ∙ sym (inside_back pair.fixed at origin at (forth at o.0) (none_more at.x) (none_more at.y))) o.2)
    (subst (λ b. IsTrue b) (ap (is_inside pair.moving (way_from at p)) (sym (back-forth at o.0)) ∙ sym (inside_back pair.moving at (way_from at p) p (forth at o.0) (again p.x at.x) (again p.y at.y))) o.3)

-- ---- a row of an obstacle at a position
shift_low : (low n at : ℤ) → (low +ℤ at) ≤ℤ n → low ≤ℤ (n -ℤ at)
shift_low low n at h = omega (arith, linear)

shift_high : (high n at : ℤ) → n ≤ℤ (high +ℤ at) → (n -ℤ at) ≤ℤ high
shift_high high n at h = omega (arith, linear)

past_low : (low n at : ℤ) → n <ℤ (low +ℤ at) → (n -ℤ at) <ℤ low
past_low low n at h = omega (arith, linear)

past_high : (high n at : ℤ) → (high +ℤ at) <ℤ n → high <ℤ (n -ℤ at)
past_high high n at h = omega (arith, linear)

pub held_row : (pair : Pair) (at p : Point) (low high : ℤ) (n : ℕ) → p.x ≡ pos n → IsRow pair (p.y -ℤ at.y) low high → IsBetween (low +ℤ at.x) (high +ℤ at.x) n → IsClear p pair at → ⊥
held_row pair at p low high n e r b = overlap_not pair at p (r.inside (p.x -ℤ at.x) (subst (λ (x : ℤ). low ≤ℤ (x -ℤ at.x)) (sym e) (shift_low low (pos n) at.x b.0)) (subst (λ (x : ℤ). (x -ℤ at.x) ≤ℤ high) (sym e) (shift_high high (pos n) at.x b.1)))

pub clear_row : (pair : Pair) (at p : Point) (low high : ℤ) (n : ℕ) → p.x ≡ pos n → IsRow pair (p.y -ℤ at.y) low high → (IsBetween (low +ℤ at.x) (high +ℤ at.x) n → ⊥) → IsClear p pair at
clear_row pair at p low high n e r b = clear_from pair at p
    (by_lt_z (pos n) (low +ℤ at.x) (λ l. r.left (p.x -ℤ at.x) (subst (λ (x : ℤ). (x -ℤ at.x) <ℤ low) (sym e) (past_low low (pos n) at.x l)))
    (λ l. by_lt_z (high +ℤ at.x) (pos n) (λ m. r.right (p.x -ℤ at.x) (subst (λ (x : ℤ). high <ℤ (x -ℤ at.x)) (sym e) (past_high high (pos n) at.x m))) (λ m. absurd (b (l, m)))))

-- what the forbidden columns of a row say of each column
pub row_held : (pair : Pair) (at : Point) (pitch row columns : ℕ) (low high : ℤ) (r : Option Forbidden) → IsRow pair (pos (row * pitch) -ℤ at.y) low high
    → IfSome r (λ s. (k : ℕ) → k < columns → ((s.from ≤ k) × (k < s.to)) ↔ IsBetween (low +ℤ at.x) (high +ℤ at.x) (k * pitch))
    → IfSome r (λ s. (k : ℕ) → k < columns → s.from ≤ k → k < s.to → IsClear (place pitch row k) pair at → ⊥)
row_held pair at pitch row columns low high None i h = h
row_held pair at pitch row columns low high (Some s) i h = λ k l a b. held_row pair at (place pitch row k) low high (k * pitch) refl i ((h k l).0 (a, b))

pub row_clear : (pair : Pair) (at : Point) (pitch row columns : ℕ) (low high : ℤ) (r : Option Forbidden) → IsRow pair (pos (row * pitch) -ℤ at.y) low high
    → IfSome r (λ s. (k : ℕ) → k < columns → ((s.from ≤ k) × (k < s.to)) ↔ IsBetween (low +ℤ at.x) (high +ℤ at.x) (k * pitch))
    → IfSome r (λ s. (k : ℕ) → k < columns → Misses k s → IsClear (place pitch row k) pair at)
row_clear pair at pitch row columns low high None i h = h
row_clear pair at pitch row columns low high (Some s) i h = λ k l m. clear_row pair at (place pitch row k) low high (k * pitch) refl i (λ b. let t = (h k l).1 b in m t.0 t.1)

pub row_free : (pair : Pair) (at : Point) (pitch row columns : ℕ) (low high : ℤ) (r : Option Forbidden) → IsRow pair (pos (row * pitch) -ℤ at.y) low high
    → IfNone r ((k : ℕ) → k < columns → IsBetween (low +ℤ at.x) (high +ℤ at.x) (k * pitch) → ⊥)
    → IfNone r ((k : ℕ) → k < columns → IsClear (place pitch row k) pair at)
row_free pair at pitch row columns low high None i h = λ k l. clear_row pair at (place pitch row k) low high (k * pitch) refl i (h k l)
row_free pair at pitch row columns low high (Some s) i h = h
