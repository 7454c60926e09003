-- A point strictly inside a closed line lies between its vertices.
use Rattle.std.proofs.Common.{◌≡◌, refl, sym, subst, arith, List, ◌∷◌}
use Rattle.shape_exact.proofs.RingLaws.{ring, linear, one-mul}
use Rattle.std.proofs.lemmas.Int.{ints}
use lib.IntN.{ℤ, pos, negsuc, ◌-ℤ◌, ◌*ℤ◌, neg_ℤ}
use lib.Signed.{◌<ℤ◌, ◌≤ℤ◌, lt_z}
use Rattle.std.proofs.Common.{Bool, true, false}
use Rattle.shape_exact.specs.declared.point.Point.{Point}
use Rattle.shape_exact.specs.Plane.{Edge, Mark, side, Every, mark_of, Inside}
use Rattle.shape_exact.proofs.LineLaws.{every_then}
use Rattle.shape_exact.proofs.LoopLaws.{separated}

wall : ℤ → Edge
wall k = record { from = record { x = k; y = pos 0 }; to = record { x = k; y = negsuc 0 } }

minus_one : (a : ℤ) → negsuc 0 *ℤ a ≡ neg_ℤ a
minus_one a = omega (arith, ints)

wall_at : (k x n d : ℤ) → (k -ℤ k) *ℤ d -ℤ negsuc 0 *ℤ (x -ℤ n *ℤ k) ≡ x -ℤ n *ℤ k
wall_at k x n d = let e = minus_one (x -ℤ n *ℤ k) in let f = none k d in omega (arith, linear)
  where
    none : (k d : ℤ) → (k -ℤ k) *ℤ d ≡ pos 0
    none k d = simp ring (omega (arith, linear))

wall_side : (k : ℤ) (z : Mark) → side (wall k) z ≡ z.x -ℤ z.n *ℤ k
unfolding wall
wall_side k z = wall_at k z.x z.n (z.y -ℤ z.n *ℤ pos 0)

pub not_right : (k : ℤ) (z : Mark) (p : Point) (ps : List Point) → Inside z (p ∷ ps) → Every (λ v. v.x ≤ℤ k) (p ∷ ps) → z.x ≤ℤ (z.n *ℤ k)
not_right k z p ps i h = by (lt_z (z.n *ℤ k) z.x) refl
  where
    at_vertex : (v : Point) → v.x ≤ℤ k → side (wall k) (mark_of v) ≤ℤ pos 0
    at_vertex v l = subst (λ (n : ℤ). n ≤ℤ pos 0) (sym (wall_side k (mark_of v))) (low v.x k l)
      where
        low : (x k : ℤ) → x ≤ℤ k → (x -ℤ pos 1 *ℤ k) ≤ℤ pos 0
        low x k l = let e = one-mul k in omega (arith, linear)

    by : (t : Bool) → lt_z (z.n *ℤ k) z.x ≡ t → z.x ≤ℤ (z.n *ℤ k)
    by false e = omega (arith, linear)
    by true e = absurd (separated (wall k) z p ps i (subst (λ (n : ℤ). pos 0 <ℤ n) (sym (wall_side k z)) (omega (arith, linear))) (every_then (λ v. v.x ≤ℤ k) (λ v. side (wall k) (mark_of v) ≤ℤ pos 0) at_vertex (p ∷ ps) h))
