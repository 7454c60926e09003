-- Whole numbers below and above a quotient.
use Rattle.std.proofs.Common.{◌≡◌, refl, arith, Bool, true, false, ℕ, ◌<◌, ◌↔◌}
use Rattle.std.proofs.lemmas.Int.{ints}
use Rattle.std.specs.Int.{int_div_euclid}
use Rattle.shape_exact.proofs.RingLaws.{ring, linear, not_negative_mul}
use lib.IntN.{ℤ, pos, negsuc, ◌+ℤ◌, ◌-ℤ◌, ◌*ℤ◌, neg_ℤ}
use lib.Signed.{◌<ℤ◌, ◌≤ℤ◌, lt_z}

-- the quotient q is the greatest whole number with d q at most c
pub floor_low : (d : ℕ) (c : ℤ) → 0 < d → (pos d *ℤ int_div_euclid c (pos d)) ≤ℤ c
floor_low d (pos a) h = omega (arith, ints)
floor_low d (negsuc a) h = omega (arith, ints)

pub floor_high : (d : ℕ) (c : ℤ) → 0 < d → c <ℤ (pos d *ℤ int_div_euclid c (pos d) +ℤ pos d)
floor_high d (pos a) h = omega (arith, ints)
floor_high d (negsuc a) h = omega (arith, ints)

-- with d above 0, d x is at most c exactly where x is at most the quotient
pub below_quotient : (d : ℕ) (c x : ℤ) → 0 < d → (pos d *ℤ x) ≤ℤ c → x ≤ℤ int_div_euclid c (pos d)
below_quotient d c x h l = by (lt_z (int_div_euclid c (pos d)) x) refl
  where
    by : (t : Bool) → lt_z (int_div_euclid c (pos d)) x ≡ t → x ≤ℤ int_div_euclid c (pos d)
    by true e =
        let q = int_div_euclid c (pos d) in
        let m = not_negative_mul (pos d) (x -ℤ q -ℤ pos 1) (omega (arith, linear)) (over q e) in
        let f = spread (pos d) x q in
        let g = floor_high d c h in
        absurd (no (pos d) x q c m f g l)
      where
        over : (q : ℤ) → lt_z q x ≡ true → pos 0 ≤ℤ (x -ℤ q -ℤ pos 1)
        over q e = omega (arith, linear)

        spread : (d x q : ℤ) → d *ℤ (x -ℤ q -ℤ pos 1) ≡ d *ℤ x -ℤ d *ℤ q -ℤ d
        spread d x q = simp ring (omega (arith, linear))

        no : (d x q c : ℤ) → pos 0 ≤ℤ (d *ℤ (x -ℤ q -ℤ pos 1)) → d *ℤ (x -ℤ q -ℤ pos 1) ≡ d *ℤ x -ℤ d *ℤ q -ℤ d → c <ℤ (d *ℤ q +ℤ d) → (d *ℤ x) ≤ℤ c → ⊥
        no d x q c m f g l = omega (arith, linear)
    by false e = omega (arith, linear)

pub times_below : (d : ℕ) (c x : ℤ) → 0 < d → x ≤ℤ int_div_euclid c (pos d) → (pos d *ℤ x) ≤ℤ c
times_below d c x h l =
    let q = int_div_euclid c (pos d) in
    let m = not_negative_mul (pos d) (q -ℤ x) (omega (arith, linear)) (over q l) in
    yes (pos d) x q c m (spread (pos d) x q) (floor_low d c h)
  where
    over : (q : ℤ) → x ≤ℤ q → pos 0 ≤ℤ (q -ℤ x)
    over q l = omega (arith, linear)

    spread : (d x q : ℤ) → d *ℤ (q -ℤ x) ≡ d *ℤ q -ℤ d *ℤ x
    spread d x q = simp ring (omega (arith, linear))

    yes : (d x q c : ℤ) → pos 0 ≤ℤ (d *ℤ (q -ℤ x)) → d *ℤ (q -ℤ x) ≡ d *ℤ q -ℤ d *ℤ x → (d *ℤ q) ≤ℤ c → (d *ℤ x) ≤ℤ c
    yes d x q c m e l = omega (arith, linear)

-- the same for a divisor that is a number above 0
pub quotient_is : (d c x : ℤ) → pos 0 <ℤ d → ((d *ℤ x) ≤ℤ c) ↔ (x ≤ℤ int_div_euclid c d)
quotient_is (pos d) c x h = (below_quotient d c x (omega (arith, linear)), times_below d c x (omega (arith, linear)))
quotient_is (negsuc d) c x h = absurd (omega (arith, linear))

-- the cut of an interval from above, and from below
pub cut_top : (slope bound q x : ℤ) → ((slope *ℤ x) ≤ℤ (bound -ℤ pos 1)) ↔ (x ≤ℤ q) → ((slope *ℤ x) <ℤ bound) ↔ (x ≤ℤ q)
cut_top slope bound q x e = (λ h. e.0 (omega (arith, linear)), λ h. let i = e.1 h in omega (arith, linear))

pub cut_bottom : (slope bound q x : ℤ) → ((neg_ℤ slope *ℤ neg_ℤ x) ≤ℤ (bound -ℤ pos 1)) ↔ (neg_ℤ x ≤ℤ q) → ((slope *ℤ x) <ℤ bound) ↔ (neg_ℤ q ≤ℤ x)
cut_bottom slope bound q x e =
    let m : neg_ℤ slope *ℤ neg_ℤ x ≡ slope *ℤ x = simp ring in
    (λ h. let i = e.0 (omega (arith, linear)) in omega (arith, linear), λ h. let i = e.1 (omega (arith, linear)) in omega (arith, linear))
