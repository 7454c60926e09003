-- Multiples of a power of two.
use Rattle.std.proofs.Common.{◌≡◌, ℕ, ◌+◌, ◌-◌, ◌*◌, ◌/◌, ◌%◌, ◌^◌, ◌<◌, ◌≤◌, ap, ◌∙◌, inl, inr, arith}
use Rattle.std.proofs.lemmas.Bool.{cases_lt}
use Rattle.std.proofs.lemmas.Nat.{pow_pos, pow-add, div-add-mod', mul-le, mod-mul-add}

-- a multiple is its quotient times the number
pub multiple_is : (a w : ℕ) → a % w ≡ 0 → a ≡ a / w * w
multiple_is a w e = let whole : a / w * w + a % w ≡ a = div-add-mod' a w in omega arith

-- of two multiples the smaller leaves room for one more
pub multiple_room : (a b w : ℕ) → a % w ≡ 0 → b % w ≡ 0 → a < b → a + w ≤ b
multiple_room a b w e f l =
    let k : ℕ = a / w in
    let m : ℕ = b / w in
    let one : a ≡ k * w = multiple_is a w e in
    let two : b ≡ m * w = multiple_is b w f in
    elim (cases_lt k m) [
      | inl less ↦ let h = mul-le (k + 1) w m w (omega arith) (omega arith) in omega arith
      | inr more ↦ let h = mul-le m w k w (omega arith) (omega arith) in absurd (omega arith)
    ]

-- the difference of two multiples is one
pub multiple_less : (a b w : ℕ) → 0 < w → a % w ≡ 0 → b % w ≡ 0 → b ≤ a → (a - b) % w ≡ 0
multiple_less a b w pos e f l =
    let k : ℕ = a / w in
    let m : ℕ = b / w in
    let one : a ≡ k * w = multiple_is a w e in
    let two : b ≡ m * w = multiple_is b w f in
    let low : m ≤ k = elim (cases_lt k m) [
      | inl less ↦ let h = mul-le (k + 1) w m w (omega arith) (omega arith) in absurd (omega arith)
      | inr more ↦ more
    ] in
    let d : ℕ = k - m in
    let sum : k * w ≡ (d + m) * w = ap (λ k. k * w) (let g : k ≡ d + m = omega arith in g) in
    let rest : a - b ≡ d * w + 0 = omega arith in
    ap (λ n. n % w) rest ∙ mod-mul-add d w 0 pos

-- a multiple below the number is 0
pub multiple_small : (a w : ℕ) → a < w → a % w ≡ 0 → a ≡ 0
multiple_small a w l e =
    let k : ℕ = a / w in
    let one : a ≡ k * w = multiple_is a w e in
    elim (cases_lt k 1) [
      | inl none ↦ let h : k * w ≡ 0 * w = ap (λ k. k * w) (let g : k ≡ 0 = omega arith in g) in omega arith
      | inr some ↦ let h = mul-le 1 w k w (omega arith) (omega arith) in absurd (omega arith)
    ]

-- a power of two is a multiple of a smaller one
pub power_multiple : (i j : ℕ) → i ≤ j → 2 ^ j % 2 ^ i ≡ 0
power_multiple i j l =
    let split : 2 ^ j ≡ 2 ^ (j - i) * 2 ^ i + 0 = ap (λ n. 2 ^ n) (let e : j ≡ (j - i) + i = omega arith in e) ∙ pow-add 2 (j - i) i ∙ (let e : 2 ^ (j - i) * 2 ^ i ≡ 2 ^ (j - i) * 2 ^ i + 0 = omega arith in e) in
    ap (λ n. n % 2 ^ i) split ∙ mod-mul-add (2 ^ (j - i)) (2 ^ i) 0 (pow_pos i)
