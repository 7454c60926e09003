-- Numbers below a limit, squares and powers: what is proved of them in more than one crate.
use Rattle.std.proofs.Common.{◌≡◌, ℕ, zero, suc, ◌-◌, ◌+◌, ◌<◌, arith, subst, inl, inr, ap, ◌∙◌, ◌⊎◌, ◌*◌, ◌^◌, ◌≤◌}
use Rattle.std.proofs.lemmas.Bool.{cases_lt}
use Rattle.std.proofs.lemmas.Int.{ints}
use lib.IntN.{ℤ, pos, negsuc, ◌*ℤ◌}
use lib.Signed.{◌≤ℤ◌}
use Rattle.std.proofs.lemmas.Nat.{pow-add}

-- a block below the next one is below this one, or is this one
pub last_or : (P : ℕ → Type 0) (n b : ℕ) → b < n + 1 → (b < n → P b) → P n → P b
last_or P n b l below last = elim (cases_lt b n) [ inl less ↦ below less | inr same ↦ subst P (let e : n ≡ b = omega arith in e) last ]

-- what can be told of each number below n can be told of all of them
pub all_or_not : (P : ℕ → Type 0) (n : ℕ) → ((k : ℕ) → P k ⊎ (P k → ⊥)) → ((k : ℕ) → k < n → P k) ⊎ (((k : ℕ) → k < n → P k) → ⊥)
all_or_not P zero told = inl (λ k l. absurd (omega arith))
all_or_not P (suc n) told = elim (all_or_not P n told) [
  | inr broken ↦ inr (λ h. broken (λ k l. h k (omega arith)))
  | inl below ↦ elim (told n) [
    | inr broken ↦ inr (λ h. broken (h n (omega arith)))
    | inl here ↦ inl (λ k l. elim (cases_lt k n) [
      | inl less ↦ below k less
      | inr same ↦ subst P (let e : n ≡ k = omega arith in e) here
    ])
  ]
]

pub square_weak : (a : ℤ) → pos 0 ≤ℤ (a *ℤ a)
square_weak (pos n) = omega (arith, ints)
square_weak (negsuc n) = omega (arith, ints)

-- the powers around a bit
pub power_step : (t : ℕ) → t < 32 → 2 ^ (32 - t) ≡ 2 ^ (31 - t) * 2
power_step t l = ap (λ n. 2 ^ n) (let e : 32 - t ≡ (31 - t) + 1 = omega arith in e) ∙ pow-add 2 (31 - t) 1
