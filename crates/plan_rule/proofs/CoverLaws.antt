-- Two boxes walked at once: which literals of the first are covered, and which of the second are passed.
use Rattle.std.proofs.Common.{◌≡◌, ℕ, ◌<◌, ◌≤◌, List, length, ◌⊎◌, get_or}
use Rattle.std.specs.List.{Any}
use Rattle.plan_rule.specs.declared.literal.Literal.{Literal}
use Rattle.plan_rule.specs.Choices.{Choices}
use Rattle.plan_rule.specs.Boxes.{IsWhole}

-- the literal is whole, or holds one of the other box on its block
abbrev pub IsCoveredBy : Choices → List Literal → Literal → Type 0
IsCoveredBy c inner a = IsWhole c a ⊎ Any (λ b. (b.block ≡ a.block) × (a.lo ≤ b.lo) × (b.hi ≤ a.hi)) inner

-- the first i literals are covered
abbrev pub CoveredTo : Choices → List Literal → List Literal → ℕ → Type 0
CoveredTo c outer inner i = (k : ℕ) (d : Literal) → k < i → IsCoveredBy c inner (get_or outer k d)

-- the first literals of the other box are below each that is left
abbrev pub Passed : List Literal → List Literal → ℕ → ℕ → Type 0
Passed outer inner i at =
    (k j : ℕ) (d e : Literal) → k < at → i ≤ j → j < length outer → (get_or inner k d).block < (get_or outer j e).block
