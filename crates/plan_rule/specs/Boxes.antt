-- Boxes of plans.
use Rattle.std.specs.Prelude.{◌≡◌, ◌≢◌, ℕ, ◌+◌, ◌<◌, ◌≤◌, List, slice_get, Option, Some, None, [], ◌==◌, if◌then◌else◌, ◌⊎◌, All, Any, filter, nat_lt, ◌∷◌, ◌++◌}
use Rattle.plan_rule.specs.declared.literal.Literal.{Literal}
use Rattle.plan_rule.specs.Choices.{Choices, blocks, count}
use Rattle.plan_rule.specs.Plans.{code_of}

-- the literal takes every code of its block
abbrev pub IsWhole : Choices → Literal → Type 0
IsWhole c l = (l.lo ≡ 0) × (l.hi ≡ count c l.block)

-- a literal of a box
pub record IsLiteral (c : Choices) (l : Literal) : Type 0 where
  pub block : l.block < blocks c
  pub some : l.lo < l.hi
  pub codes : l.hi ≤ count c l.block
  pub part : IsWhole c l → count c l.block ≡ 1

-- the literals stand in ascending order of their blocks
abbrev pub IsAscending : List Literal → Type 0
IsAscending box =
    (i j : ℕ) (l m : Literal) → i < j → slice_get box i ≡ Some l → slice_get box j ≡ Some m → l.block < m.block

-- what every box keeps, whatever the yard: its literals ascend by block, and each has a code
pub record AreLiterals (box : List Literal) : Type 0 where
  pub ascending : IsAscending box
  pub some : All (λ l. l.lo < l.hi) box

-- the blocks of the literals are among the first n
abbrev pub AreAmong : ℕ → List Literal → Type 0
AreAmong n box = All (λ l. l.block < n) box

-- a list of literals, one a block at most, in the order of the blocks
pub record IsBox (c : Choices) (box : List Literal) : Type 0 where
  pub ascending : IsAscending box
  pub each : All (IsLiteral c) box

-- each literal's range has the plan's code of its block
abbrev pub Holds : List Literal → List ℕ → Type 0
Holds box plan = All (λ l. (l.lo ≤ code_of plan l.block) × (code_of plan l.block < l.hi)) box

-- the literal of one code
abbrev pub exact : ℕ → ℕ → Literal
exact b code = record { block = b; lo = code; hi = code + 1 }

-- the code to which a box fixes a block, by a literal of that one code
abbrev pub exact_code : List Literal → ℕ → Option ℕ
exact_code [] b = None
exact_code (l ∷ box) b = if l.block == b then (if l.hi == l.lo + 1 then Some l.lo else None) else exact_code box b

-- the box fixes the block to this code
abbrev pub HasExact : List Literal → ℕ → ℕ → Type 0
HasExact box b code = exact_code box b ≡ Some code

-- the box has no literal on the block
abbrev pub LeavesFree : List Literal → ℕ → Type 0
LeavesFree box b = All (λ l. l.block ≢ b) box

-- each literal of the first box holds the literal of the second on the same block, or is whole
abbrev pub Covers : Choices → List Literal → List Literal → Type 0
Covers c outer inner =
    All (λ a. IsWhole c a ⊎ Any (λ b. (b.block ≡ a.block) × (a.lo ≤ b.lo) × (b.hi ≤ a.hi)) inner) outer

-- the box with one literal more, in its place
abbrev pub with_literal : List Literal → Literal → List Literal
with_literal box l = filter (λ m. nat_lt m.block l.block) box ++ l ∷ filter (λ m. nat_lt l.block m.block) box
