-- A plan's bits, block by block.
use Rattle.std.proofs.Common.{◌≡◌, ℕ, zero, suc, ◌+◌, ◌<◌, ◌≤◌, List, [], ◌∷◌, ◌++◌, length, refl, ap, ◌∙◌, arith, drop, get_or}
use Rattle.std.proofs.Math.Seq.{drop-cons}
use Rattle.plan_rule.specs.Choices.{Choices}
use Rattle.plan_rule.specs.Bits.{code_bits, plan_bits}
use Rattle.plan_rule.specs.Paths.{number_of, path}
use Rattle.plan_rule.proofs.HalvingLaws.{none_follow}

-- the bits of the first block and of the rest
first_bits : (count code : ℕ) (counts plan : List ℕ) → plan_bits (count ∷ counts) (code ∷ plan) ≡ code_bits count code ++ plan_bits counts plan
unfolding plan_bits code_bits
first_bits count code counts plan = refl

-- the bits of the next block and of those after it
pub next_bits : (counts plan : List ℕ) (i : ℕ) → i < length counts → i < length plan
    → plan_bits (drop i counts) (drop i plan) ≡ code_bits (get_or counts i 0) (get_or plan i 0) ++ plan_bits (drop (i + 1) counts) (drop (i + 1) plan)
next_bits counts plan i l m =
    ap (λ xs. plan_bits xs (drop i plan)) (drop-cons counts i 0 l)
    ∙ ap (plan_bits (get_or counts i 0 ∷ drop (suc i) counts)) (drop-cons plan i 0 m)
    ∙ first_bits (get_or counts i 0) (get_or plan i 0) (drop (suc i) counts) (drop (suc i) plan)
    ∙ ap (λ n. code_bits (get_or counts i 0) (get_or plan i 0) ++ plan_bits (drop n counts) (drop n plan)) (let e : suc i ≡ i + 1 = omega arith in e)

-- the path number is the number of a plan's bits
pub path_is : (c : Choices) (plan : List ℕ) → path c plan ≡ number_of 32 (plan_bits c.counts plan)
unfolding path plan_bits
path_is c plan = refl

-- past the last block there are none
pub no_bits : (left i : ℕ) (counts plan : List ℕ) → length counts ≤ i → number_of left (plan_bits (drop i counts) plan) ≡ 0
unfolding plan_bits
no_bits left i counts plan l = none_follow left 32 (drop i counts) plan (drop-all counts i l)
  where
    drop-all : (xs : List ℕ) (i : ℕ) → length xs ≤ i → drop i xs ≡ []
    drop-all [] zero l = refl
    drop-all [] (suc i) l = refl
    drop-all (x ∷ xs) zero l = absurd (omega arith)
    drop-all (x ∷ xs) (suc i) l = drop-all xs i (omega arith)
