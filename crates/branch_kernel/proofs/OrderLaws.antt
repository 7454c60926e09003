-- Citations in ascending order.
use Rattle.std.proofs.Common.{◌≡◌, ℕ, suc, ◌+◌, ◌<◌, ◌≤◌, ◌^◌, List, [], ◌∷◌, length, get_or, arith, subst}
use Rattle.std.specs.List.{All, AllByRecursion}
use Rattle.std.specs.List.Sorted.{IsStrictlyIncreasing}
use Rattle.std.proofs.lemmas.List.Elements.{All-head, All-tail}
use Rattle.refutation_log.specs.Citations.{Ascend, AreCites}

by_recursion : (P : ℕ → Type 0) (xs : List ℕ) → All P xs → AllByRecursion P xs
by_recursion P [] h = tt
by_recursion P (x ∷ xs) h = (All-head P x xs h, by_recursion P xs (All-tail P x xs h))

shifted : (x : ℕ) (xs : List ℕ) (k : ℕ) → get_or (x ∷ xs) (suc k) 0 < get_or (x ∷ xs) (suc k + 1) 0 → get_or xs k 0 < get_or xs (k + 1) 0
shifted x xs k l = let e : suc k + 1 ≡ suc (k + 1) = omega arith in subst (λ i. get_or xs k 0 < get_or (x ∷ xs) i 0) e l

ascend : (n : ℕ) (xs : List ℕ) → (0 < length xs → n ≤ get_or xs 0 0) → IsStrictlyIncreasing xs → Ascend (λ k. k) n xs
ascend n [] first rises = tt
ascend n (x ∷ xs) first rises =
    (first (omega arith), ascend (x + 1) xs (λ some. let l = rises 0 (omega arith) in omega arith) (λ k l. let m = rises (suc k) (omega arith) in shifted x xs k m))

pub cites_from : (xs : List ℕ) → IsStrictlyIncreasing xs → All (λ k. k < 10 ^ 18) xs → AreCites xs
cites_from xs rises few = (ascend 0 xs (λ some. omega arith) rises, by_recursion (λ k. k < 10 ^ 18) xs few)
