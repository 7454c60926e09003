-- A number that is above 0 at each test, taken often enough, stays above 0 when another number is added.
use Rattle.std.proofs.Common.{◌≡◌, ap, ◌∙◌, arith, suc, List, [], ◌∷◌}
use Rattle.shape_exact.proofs.RingLaws.{linear, add-mul, mul-add, mul-one, mul-neg, not_negative_mul}
use lib.IntN.{ℤ, pos, negsuc, ◌+ℤ◌, ◌-ℤ◌, ◌*ℤ◌, neg_ℤ}
use lib.Signed.{◌<ℤ◌, ◌≤ℤ◌}
use Rattle.shape_exact.specs.Plane.{Every}

-- a number that is not negative and that g lies above when negated
reach : ℤ → ℤ
reach (pos n) = pos 0
reach (negsuc n) = pos (suc n)

reach_is : (g : ℤ) → (pos 0 ≤ℤ reach g) × (pos 0 ≤ℤ (reach g +ℤ g))
unfolding reach
reach_is (pos n) = (omega (arith, linear), omega (arith, linear))
reach_is (negsuc n) = (omega (arith, linear), omega (arith, linear))

more : (k m f g : ℤ) → pos 0 ≤ℤ m → pos 0 <ℤ f → pos 0 <ℤ (k *ℤ f +ℤ g) → pos 0 <ℤ ((k +ℤ m) *ℤ f +ℤ g)
more k m f g hm hf h =
    let x : pos 0 ≤ℤ (m *ℤ f) = not_negative_mul m f hm (omega (arith, linear)) in
    let e = add-mul k m f in
    omega (arith, linear)

enough : (k f g : ℤ) → pos 0 <ℤ k → pos 0 <ℤ f → pos 0 <ℤ (k +ℤ g) → pos 0 <ℤ (k *ℤ f +ℤ g)
enough k f g hk hf h =
    let x : pos 0 ≤ℤ (k *ℤ (f -ℤ pos 1)) = not_negative_mul k (f -ℤ pos 1) (omega (arith, linear)) (omega (arith, linear)) in
    let e : k *ℤ (f -ℤ pos 1) ≡ k *ℤ f -ℤ k = mul-add k f (neg_ℤ (pos 1)) ∙ ap (λ w. k *ℤ f +ℤ w) (mul-neg k (pos 1) ∙ ap neg_ℤ (mul-one k)) in
    omega (arith, linear)

first : (k m g : ℤ) → pos 0 <ℤ k → pos 0 ≤ℤ m → pos 0 ≤ℤ (m +ℤ g) → pos 0 <ℤ (k +ℤ m +ℤ g)
first k m g a b c = omega (arith, linear)

later : {H : Type 0} (f g : H → ℤ) (k m : ℤ) (hs : List H) → pos 0 ≤ℤ m → Every (λ h. pos 0 <ℤ f h) hs → Every (λ h. pos 0 <ℤ (k *ℤ f h +ℤ g h)) hs → Every (λ h. pos 0 <ℤ ((k +ℤ m) *ℤ f h +ℤ g h)) hs
later f g k m [] p h i = tt
later f g k m (x ∷ xs) p h i = (more k m (f x) (g x) p h.0 i.0, later f g k m xs p h.1 i.1)

above_sum : (k m : ℤ) → pos 0 <ℤ k → pos 0 ≤ℤ m → pos 0 <ℤ (k +ℤ m)
above_sum k m h i = omega (arith, linear)

pub nudge : {H : Type 0} (f g : H → ℤ) (hs : List H) → Every (λ h. pos 0 <ℤ f h) hs → (k : ℤ) × (pos 0 <ℤ k) × Every (λ h. pos 0 <ℤ (k *ℤ f h +ℤ g h)) hs
nudge f g [] h = (pos 1, omega (arith, linear), tt)
nudge f g (x ∷ xs) h =
    let rest = nudge f g xs h.1 in
    let r = reach_is (g x) in
    let up = above_sum rest.0 (reach (g x)) rest.1 r.0 in
    (rest.0 +ℤ reach (g x), up, (enough (rest.0 +ℤ reach (g x)) (f x) (g x) up h.0 (first rest.0 (reach (g x)) (g x) rest.1 r.0 r.1), later f g rest.0 (reach (g x)) xs r.0 h.1 rest.2))
