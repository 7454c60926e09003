-- The numbers that a record cites.
use Rattle.std.specs.Prelude.{ℕ, ◌+◌, ◌<◌, ◌≤◌, ◌^◌, List, [], ◌∷◌}
use Rattle.std.specs.List.{AllByRecursion}

-- each is at least n by its key, and the keys ascend
abbrev pub Ascend : {X : Type 0} → (X → ℕ) → ℕ → List X → Type 0
Ascend key n [] = Unit {0}
Ascend key n (x ∷ xs) = (n ≤ key x) × Ascend key (key x + 1) xs

-- strictly ascending numbers below 10^18
abbrev pub AreCites : List ℕ → Type 0
AreCites cites = Ascend (λ k. k) 0 cites × AllByRecursion (λ k. k < 10 ^ 18) cites
