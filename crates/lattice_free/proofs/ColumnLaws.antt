-- Multiples of a pitch below a number.
use Rattle.std.proofs.Common.{◌≡◌, ℕ, ◌+◌, ◌<◌, ◌≤◌, ◌↔◌, min, arith, ⊎_elim}
use Rattle.std.proofs.lemmas.Int.{ints, by_lt_z}
use lib.IntN.{ℤ, pos, ◌+ℤ◌}
use lib.Signed.{◌<ℤ◌, ◌≤ℤ◌}
use Rattle.lattice_free.specs.Gaps.{IsBetween}
use Rattle.std.proofs.lemmas.Bool.{cases_lt}

-- ---- the columns between two numbers
no_left : (low : ℤ) (n k from : ℕ) → (k < from) ↔ (pos n <ℤ low) → from ≤ k → low ≤ℤ pos n
no_left low n k from a h = by_lt_z (pos n) low (λ l. absurd (let b = a.1 l in omega arith)) (λ l. l)

to_right : (high : ℤ) (n : ℕ) → pos n <ℤ (high +ℤ pos 1) → pos n ≤ℤ high
to_right high n h = omega (arith, ints)

from_right : (high : ℤ) (n : ℕ) → pos n ≤ℤ high → pos n <ℤ (high +ℤ pos 1)
from_right high n h = omega (arith, ints)

not_before : (low : ℤ) (n : ℕ) → pos n <ℤ low → low ≤ℤ pos n → ⊥
not_before low n h k = omega (arith, ints)

pub columns_are : (low high : ℤ) (n k from past to columns : ℕ) → (k < from) ↔ (pos n <ℤ low) → (k < past) ↔ (pos n <ℤ (high +ℤ pos 1)) → to ≡ min past columns → k < columns → ((from ≤ k) × (k < to)) ↔ IsBetween low high n
columns_are low high n k from past to columns a b e l = (
  λ h. (no_left low n k from a h.0, to_right high n (b.0 (let m = h.1 in omega arith))),
  λ h. (⊎_elim (λ m. absurd (not_before low n (a.0 m) h.0)) (λ m. m) (cases_lt k from), let m = b.1 (from_right high n h.1) in omega arith),
)

pub none_between : (low high : ℤ) (n k from past to columns : ℕ) → (k < from) ↔ (pos n <ℤ low) → (k < past) ↔ (pos n <ℤ (high +ℤ pos 1)) → to ≡ min past columns → k < columns → to ≤ from → IsBetween low high n → ⊥
none_between low high n k from past to columns a b e l m h = let r = (columns_are low high n k from past to columns a b e l).1 h in let i = r.0 in let j = r.1 in omega arith
