-- The codes of a block with which a side is behind a plan.
use Rattle.std.specs.Prelude.{◌≡◌, ◌≢◌, ℕ, ◌<◌, ◌≤◌, List, length, Any, ◌⊎◌, ◌↔◌}
use Rattle.plan_rule.specs.declared.literal.Literal.{Literal}
use Rattle.plan_rule.specs.Choices.{Choices, IsCode}
use Rattle.plan_rule.specs.Plans.{code_of}
use Rattle.plan_rule.specs.Boxes.{HasExact, exact, with_literal}
use Rattle.plan_rule.specs.Bounds.{IsBehind}

-- a literal of the box on the block has only codes above this one
abbrev pub IsAbove : List Literal → ℕ → ℕ → Type 0
IsAbove box b code = Any (λ l. (l.block ≡ b) × (code < l.lo)) box

-- the first block, other than b, that the box does not fix to the plan's code; the number of blocks where there is none
pub record IsFirstApart (box : List Literal) (p : List ℕ) (b j : ℕ) : Type 0 where
  pub within : j ≤ length p
  pub other : j ≢ b
  pub before : (a : ℕ) → a < j → a ≢ b → HasExact box a (code_of p a)
  pub here : j < length p → HasExact box j (code_of p j) → ⊥

-- the block is past the last one, or its codes in the box are above the plan's
abbrev pub IsBehindFrom : List Literal → List ℕ → ℕ → Type 0
IsBehindFrom box p j = (j ≡ length p) ⊎ IsAbove box j (code_of p j)

-- the side with a code of the block is behind the plan where the code is this or a later one
abbrev pub IsFirstTie : Choices → List Literal → List ℕ → ℕ → ℕ → Type 0
IsFirstTie c side p b tie =
    (code : ℕ) → IsCode c b code → (tie ≤ code) ↔ IsBehind c (with_literal side (exact b code)) p
