-- The bits of a block's code, one halving at a time.
use Rattle.std.proofs.Common.{◌≡◌, ℕ, zero, suc, ◌+◌, ◌-◌, ◌*◌, ◌^◌, ◌<◌, ◌≤◌, List, [], ◌++◌, Bool, true, leb, ◌⊎◌, refl, sym, ap, ◌∙◌, inl, inr, arith}
use Rattle.std.proofs.lemmas.Bool.{leb-true, le-leb, lt-leb}
use Rattle.std.proofs.lemmas.Nat.{pow-add}
use Rattle.plan_rule.specs.Paths.{halvings, all_halvings, number_of}
use Rattle.plan_rule.proofs.RegionLaws.{halved, lower_bits, upper_bits, middle, one_left}

wide : (lo hi : ℕ) → 1 < hi - lo → leb (hi - lo) 1 ≡ true → ⊥
wide lo hi l e = let h = leb-true (hi - lo) 1 e in absurd (omega arith)

up_one : (w m lo hi code : ℕ) (rest : List Bool) → 1 < hi - lo → middle lo hi ≤ code
    → number_of (suc w) (halvings (suc m) lo hi code ++ rest) ≡ 2 ^ w + number_of w (halvings m (middle lo hi) hi code ++ rest)
up_one w m lo hi code rest l above =
    halved (leb (hi - lo) 1) (leb (middle lo hi) code) w _ rest (wide lo hi l)
    ∙ upper_bits (leb (middle lo hi) code) w m lo hi code rest (le-leb (middle lo hi) code above)

down_one : (w m lo hi code : ℕ) (rest : List Bool) → 1 < hi - lo → code < middle lo hi
    → number_of (suc w) (halvings (suc m) lo hi code ++ rest) ≡ number_of w (halvings m lo (middle lo hi) code ++ rest)
down_one w m lo hi code rest l below =
    halved (leb (hi - lo) 1) (leb (middle lo hi) code) w _ rest (wide lo hi l)
    ∙ lower_bits (leb (middle lo hi) code) w m lo hi code rest (lt-leb (middle lo hi) code below)

-- a code in the upper half sets the next bit
pub halve_up : (left m lo hi code p : ℕ) (rest : List Bool) → 0 < left → left ≤ m → 1 < hi - lo → middle lo hi ≤ code → p ≡ 2 ^ (left - 1)
    → p + number_of (left - 1) (halvings (m - 1) (middle lo hi) hi code ++ rest) ≡ number_of left (halvings m lo hi code ++ rest)
halve_up zero m lo hi code p rest pos few l above e = absurd (omega arith)
halve_up (suc w) zero lo hi code p rest pos few l above e = absurd (omega arith)
halve_up (suc w) (suc m) lo hi code p rest pos few l above e =
    let ew : suc w - 1 ≡ w = omega arith in
    let em : suc m - 1 ≡ m = omega arith in
    let bits : number_of (suc w - 1) (halvings (suc m - 1) (middle lo hi) hi code ++ rest) ≡ number_of w (halvings m (middle lo hi) hi code ++ rest) =
    ap (λ w. number_of w (halvings (suc m - 1) (middle lo hi) hi code ++ rest)) ew
    ∙ ap (λ m. number_of w (halvings m (middle lo hi) hi code ++ rest)) em in
    let power : p ≡ 2 ^ w = e ∙ ap (λ w. 2 ^ w) ew in
    let one = up_one w m lo hi code rest l above in
    omega (arith, bits, power, one)

-- a code in the lower half leaves it 0
pub halve_down : (left m lo hi code : ℕ) (rest : List Bool) → 0 < left → left ≤ m → 1 < hi - lo → code < middle lo hi
    → number_of (left - 1) (halvings (m - 1) lo (middle lo hi) code ++ rest) ≡ number_of left (halvings m lo hi code ++ rest)
halve_down zero m lo hi code rest pos few l below = absurd (omega arith)
halve_down (suc w) zero lo hi code rest pos few l below = absurd (omega arith)
halve_down (suc w) (suc m) lo hi code rest pos few l below =
    let ew : suc w - 1 ≡ w = omega arith in
    let em : suc m - 1 ≡ m = omega arith in
    let bits : number_of (suc w - 1) (halvings (suc m - 1) lo (middle lo hi) code ++ rest) ≡ number_of w (halvings m lo (middle lo hi) code ++ rest) =
    ap (λ w. number_of w (halvings (suc m - 1) lo (middle lo hi) code ++ rest)) ew
    ∙ ap (λ m. number_of w (halvings m lo (middle lo hi) code ++ rest)) em in
    let one = down_one w m lo hi code rest l below in
    omega (arith, bits, one)

-- where no bit is left, or one code, nothing is added
pub no_halving : (left m lo hi code : ℕ) (rest : List Bool) → (left ≡ 0) ⊎ (hi ≤ lo + 1)
    → number_of left rest ≡ number_of left (halvings m lo hi code ++ rest)
no_halving left m lo hi code rest (inl e) = ap (λ w. number_of w rest) e ∙ sym (ap (λ w. number_of w (halvings m lo hi code ++ rest)) e)
no_halving left m lo hi code rest (inr l) = ap (λ bits. number_of left (bits ++ rest)) (sym (one_left m lo hi code l))

-- the bits that follow where no block is left
pub none_follow : (left n : ℕ) (counts plan : List ℕ) → counts ≡ [] → number_of left (all_halvings n counts plan) ≡ 0
none_follow left n counts plan e = ap (λ counts. number_of left (all_halvings n counts plan)) e ∙ nothing left
  where
    nothing : (left : ℕ) → number_of left [] ≡ 0
    nothing zero = refl
    nothing (suc w) = refl

-- one bit less, half the power
pub power_half : (left : ℕ) → 0 < left → 2 ^ left ≡ 2 ^ (left - 1) * 2
power_half left pos =
    ap (λ n. 2 ^ n) (let e : left ≡ (left - 1) + 1 = omega arith in e)
    ∙ pow-add 2 (left - 1) 1
