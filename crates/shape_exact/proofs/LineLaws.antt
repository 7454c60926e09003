-- Tests on a line: where each two of them pass at some point, all pass at one.
use Rattle.std.proofs.Common.{◌≡◌, refl, sym, ap, ◌∙◌, subst, arith, zero, suc, List, [], ◌∷◌, Bool, true, false}
use Rattle.shape_exact.proofs.RingLaws.{ring, linear, mul-neg, neg-mul, mul-one, mul-zero, zero-mul, not_negative_mul, positive_mul, positive_cancel}
use lib.IntN.{ℤ, pos, negsuc, ◌+ℤ◌, ◌-ℤ◌, ◌*ℤ◌, neg_ℤ, *ℤ_comm}
use lib.Signed.{◌<ℤ◌, ◌≤ℤ◌, lt_z}
use Rattle.shape_exact.specs.Plane.{Every}
use Rattle.shape_exact.proofs.NudgeLaws.{nudge}

-- the three cases of a number
pub data Sign (a : ℤ) : Type 0 where
  above : pos 0 <ℤ a → Sign a
  none : a ≡ pos 0 → Sign a
  below : a <ℤ pos 0 → Sign a

pub sign : (a : ℤ) → Sign a
sign (pos zero) = none refl
sign (pos (suc n)) = above (omega (arith, linear))
sign (negsuc n) = below (omega (arith, linear))

-- ν Δ, in two ways
cross_is : (ca cb sa sb t n : ℤ) → n *ℤ (ca *ℤ sb -ℤ sa *ℤ cb) ≡ ca *ℤ (sa *ℤ t +ℤ sb *ℤ n) -ℤ sa *ℤ (ca *ℤ t +ℤ cb *ℤ n)
cross_is ca cb sa sb t n = simp ring (omega (arith, linear))

-- at the border of c, where c has the slope ca above 0, s is above 0: c fails at (t, n), and holds at (t', n'), and s holds at both
border_above : (ca cb sa sb t n t' n' : ℤ) → pos 0 <ℤ ca → pos 0 <ℤ n → pos 0 <ℤ n' → pos 0 <ℤ (sa *ℤ t +ℤ sb *ℤ n) → (ca *ℤ t +ℤ cb *ℤ n) ≤ℤ pos 0 → pos 0 <ℤ (sa *ℤ t' +ℤ sb *ℤ n') → pos 0 <ℤ (ca *ℤ t' +ℤ cb *ℤ n') → pos 0 <ℤ (ca *ℤ sb -ℤ sa *ℤ cb)
border_above ca cb sa sb t n t' n' ha hn hn' s c s' c' = by (lt_z sa (pos 0)) refl
  where
    weak : (a : ℤ) → pos 0 <ℤ a → pos 0 ≤ℤ a
    weak a h = omega (arith, linear)

    negate : (a : ℤ) → a ≤ℤ pos 0 → pos 0 ≤ℤ neg_ℤ a
    negate a h = omega (arith, linear)

    last : (d x y q : ℤ) → d ≡ x -ℤ y → q ≡ neg_ℤ y → pos 0 <ℤ x → pos 0 ≤ℤ q → pos 0 <ℤ d
    last d x y q e f h k = omega (arith, linear)

    by : (b : Bool) → lt_z sa (pos 0) ≡ b → pos 0 <ℤ (ca *ℤ sb -ℤ sa *ℤ cb)
    by true e =
        let x = positive_mul ca (sa *ℤ t' +ℤ sb *ℤ n') ha s' in
        let y = positive_mul (neg_ℤ sa) (ca *ℤ t' +ℤ cb *ℤ n') (omega (arith, linear)) c' in
        let id = cross_is ca cb sa sb t' n' in
        positive_cancel n' (ca *ℤ sb -ℤ sa *ℤ cb) hn' (last _ _ _ _ id (neg-mul sa (ca *ℤ t' +ℤ cb *ℤ n')) x (weak _ y))
    by false e =
        let x = positive_mul ca (sa *ℤ t +ℤ sb *ℤ n) ha s in
        let y = not_negative_mul sa (neg_ℤ (ca *ℤ t +ℤ cb *ℤ n)) (omega (arith, linear)) (negate _ c) in
        let id = cross_is ca cb sa sb t n in
        positive_cancel n (ca *ℤ sb -ℤ sa *ℤ cb) hn (last _ _ _ _ id (mul-neg sa (ca *ℤ t +ℤ cb *ℤ n)) x y)

-- the same where the slope of c is below 0
border_below : (ca cb sa sb t n t' n' : ℤ) → ca <ℤ pos 0 → pos 0 <ℤ n → pos 0 <ℤ n' → pos 0 <ℤ (sa *ℤ t +ℤ sb *ℤ n) → (ca *ℤ t +ℤ cb *ℤ n) ≤ℤ pos 0 → pos 0 <ℤ (sa *ℤ t' +ℤ sb *ℤ n') → pos 0 <ℤ (ca *ℤ t' +ℤ cb *ℤ n') → pos 0 <ℤ (sa *ℤ cb -ℤ ca *ℤ sb)
border_below ca cb sa sb t n t' n' ha hn hn' s c s' c' =
    let d = border_above (neg_ℤ ca) cb (neg_ℤ sa) sb (neg_ℤ t) n (neg_ℤ t') n' (omega (arith, linear)) hn hn' (over sa t sb n s) (under ca t cb n c) (over sa t' sb n' s') (over ca t' cb n' c') in
    turn_back ca cb sa sb d
  where
    same : (a t : ℤ) → neg_ℤ a *ℤ neg_ℤ t ≡ a *ℤ t
    same a t = simp ring

    over : (a t b n : ℤ) → pos 0 <ℤ (a *ℤ t +ℤ b *ℤ n) → pos 0 <ℤ (neg_ℤ a *ℤ neg_ℤ t +ℤ b *ℤ n)
    over a t b n h = rw (same a t) h

    under : (a t b n : ℤ) → (a *ℤ t +ℤ b *ℤ n) ≤ℤ pos 0 → (neg_ℤ a *ℤ neg_ℤ t +ℤ b *ℤ n) ≤ℤ pos 0
    under a t b n h = rw (same a t) h

    turn_back : (ca cb sa sb : ℤ) → pos 0 <ℤ (neg_ℤ ca *ℤ sb -ℤ neg_ℤ sa *ℤ cb) → pos 0 <ℤ (sa *ℤ cb -ℤ ca *ℤ sb)
    turn_back ca cb sa sb h = let e = neg-mul ca sb in let f = neg-mul sa cb in omega (arith, linear)

-- the point t / n of a line
pub record Place : Type 0 where
  pub t : ℤ
  pub n : ℤ

-- the test with slope a and height b
abbrev pub level : {H : Type 0} → (H → ℤ) → (H → ℤ) → Place → H → ℤ
level a b p h = a h *ℤ p.t +ℤ b h *ℤ p.n

-- each two tests of K pass at one point
abbrev pub Paired : {H : Type 0} → (H → ℤ) → (H → ℤ) → (H → Type 0) → Type 0
Paired {H} a b K = (s t : H) → K s → K t → (p : Place) × (pos 0 <ℤ p.n) × (pos 0 <ℤ level a b p s) × (pos 0 <ℤ level a b p t)

abbrev pub Passed : {H : Type 0} → (H → ℤ) → (H → ℤ) → List H → Type 0
Passed a b hs = (p : Place) × (pos 0 <ℤ p.n) × Every (λ h. pos 0 <ℤ level a b p h) hs

pub every_then : {A : Type 0} (P Q : A → Type 0) (f : (a : A) → P a → Q a) (xs : List A) → Every P xs → Every Q xs
every_then P Q f [] h = tt
every_then P Q f (x ∷ xs) h = (f x h.0, every_then P Q f xs h.1)

pub both : {A : Type 0} (P Q R : A → Type 0) (f : (a : A) → P a → Q a → R a) (xs : List A) → Every P xs → Every Q xs → Every R xs
both P Q R f [] h i = tt
both P Q R f (x ∷ xs) h i = (f x h.0 i.0, both P Q R f xs h.1 i.1)

-- a step along the line from the border of c into it
into : {H : Type 0} (a b : H → ℤ) (c : H) (hs : List H) (at : Place) (by : ℤ) → pos 0 <ℤ at.n → level a b at c ≡ pos 0 → Every (λ h. pos 0 <ℤ level a b at h) hs → pos 0 <ℤ (a c *ℤ by) → Passed a b (c ∷ hs)
into a b c hs at by hn z h up =
    let k = nudge (level a b at) (λ s. a s *ℤ by) hs h in
    let to : Place = record { t = k.0 *ℤ at.t +ℤ by; n = k.0 *ℤ at.n } in (
      to,
      positive_mul k.0 at.n k.1 hn,
      (
        subst (λ (w : ℤ). pos 0 <ℤ w) (sym (split (a c) (b c) k.0 at.t at.n by)) (here k.0 (level a b at c) (a c *ℤ by) z up),
        every (λ s. pos 0 <ℤ (k.0 *ℤ level a b at s +ℤ a s *ℤ by)) (λ s. pos 0 <ℤ level a b to s) (λ s i. subst (λ (w : ℤ). pos 0 <ℤ w) (sym (split (a s) (b s) k.0 at.t at.n by)) i) hs k.2,
      ),
    )
  where
    split : (a b k t n by : ℤ) → a *ℤ (k *ℤ t +ℤ by) +ℤ b *ℤ (k *ℤ n) ≡ k *ℤ (a *ℤ t +ℤ b *ℤ n) +ℤ a *ℤ by
    split a b k t n by = simp ring (omega (arith, linear))

    here : (k l g : ℤ) → l ≡ pos 0 → pos 0 <ℤ g → pos 0 <ℤ (k *ℤ l +ℤ g)
    here k l g z h = rw (z, mul-zero k) (omega (arith, linear))

    every : {A : Type 0} (P Q : A → Type 0) (f : (a : A) → P a → Q a) (xs : List A) → Every P xs → Every Q xs
    every P Q f [] h = tt
    every P Q f (x ∷ xs) h = (f x h.0, every P Q f xs h.1)

pub line_helly : {H : Type 0} (a b : H → ℤ) (K : H → Type 0) → Paired a b K → (hs : List H) → Every K hs → Passed a b hs
line_helly a b K two [] ks = (record { t = pos 0; n = pos 1 }, omega (arith, linear), tt)
line_helly {H} a b K two (c ∷ hs) ks = step (line_helly a b K two hs ks.1)
  where
    vanish : (ca cb : ℤ) → ca *ℤ neg_ℤ cb +ℤ cb *ℤ ca ≡ pos 0
    vanish ca cb = simp ring (omega (arith, linear))

    vanish' : (ca cb : ℤ) → ca *ℤ cb +ℤ cb *ℤ neg_ℤ ca ≡ pos 0
    vanish' ca cb = simp ring (omega (arith, linear))

    place : (ca cb sa sb : ℤ) → pos 0 <ℤ (ca *ℤ sb -ℤ sa *ℤ cb) → pos 0 <ℤ (sa *ℤ neg_ℤ cb +ℤ sb *ℤ ca)
    place ca cb sa sb h = let e = mul-neg sa cb in let f = *ℤ_comm sb ca in omega (arith, linear)

    place' : (ca cb sa sb : ℤ) → pos 0 <ℤ (sa *ℤ cb -ℤ ca *ℤ sb) → pos 0 <ℤ (sa *ℤ cb +ℤ sb *ℤ neg_ℤ ca)
    place' ca cb sa sb h = let e = mul-neg sb ca in let f = *ℤ_comm sb ca in omega (arith, linear)

    flat : (ca cb t n t' n' : ℤ) → ca ≡ pos 0 → pos 0 <ℤ n → pos 0 <ℤ n' → pos 0 <ℤ (ca *ℤ t' +ℤ cb *ℤ n') → (ca *ℤ t +ℤ cb *ℤ n) ≤ℤ pos 0 → ⊥
    flat ca cb t n t' n' z hn hn' h l =
        let e = ap (λ w. w *ℤ t) z ∙ zero-mul t in
        let e' = ap (λ w. w *ℤ t') z ∙ zero-mul t' in
        let f' = *ℤ_comm cb n' in
        let up : pos 0 <ℤ (n' *ℤ cb) = omega (arith, linear) in
        let more = positive_mul cb n (positive_cancel n' cb hn' up) hn in
        omega (arith, linear)

    outside : (p : Passed a b hs) → level a b p.0 c ≤ℤ pos 0 → Sign (a c) → Passed a b (c ∷ hs)
    outside p out (above u) =
        into a b c hs (record { t = neg_ℤ (b c); n = a c }) (pos 1) u (vanish (a c) (b c))
        (both K (λ s. pos 0 <ℤ level a b p.0 s) (λ s. pos 0 <ℤ level a b (record { t = neg_ℤ (b c); n = a c }) s)
        (λ s k h. let w = two s c k ks.0 in place (a c) (b c) (a s) (b s) (border_above (a c) (b c) (a s) (b s) p.0.t p.0.n w.0.t w.0.n u p.1 w.1 h out w.2 w.3)) hs ks.1 p.2)
        (rw (mul-one (a c)) u)
    outside p out (none z) = let w = two c c ks.0 ks.0 in absurd (flat (a c) (b c) p.0.t p.0.n w.0.t w.0.n z p.1 w.1 w.2 out)
    outside p out (below u) =
        into a b c hs (record { t = b c; n = neg_ℤ (a c) }) (negsuc 0) (omega (arith, linear)) (vanish' (a c) (b c))
        (both K (λ s. pos 0 <ℤ level a b p.0 s) (λ s. pos 0 <ℤ level a b (record { t = b c; n = neg_ℤ (a c) }) s)
        (λ s k h. let w = two s c k ks.0 in place' (a c) (b c) (a s) (b s) (border_below (a c) (b c) (a s) (b s) p.0.t p.0.n w.0.t w.0.n u p.1 w.1 h out w.2 w.3)) hs ks.1 p.2)
        (omega (arith, linear, mul-neg (a c) (pos 1), mul-one (a c)))

    step : Passed a b hs → Passed a b (c ∷ hs)
    step p = elim (sign (level a b p.0 c)) [ above h ↦ (p.0, p.1, (h, p.2)) | none z ↦ outside p (omega (arith, linear)) (sign (a c)) | below l ↦ outside p (omega (arith, linear)) (sign (a c)) ]
