-- Leasts up to a limit, and what the exact blocks leave to choose.
use Rattle.std.specs.Prelude.{◌≡◌, ℕ, ◌<◌, ◌≤◌, Bool, List, Option, Some, None, nat_le, nat_lt, slice_get}
use Rattle.shape_exact.specs.Yards.{PlainYard}
use Rattle.code_table.specs.declared.placement.Placement.{Placement}
use Rattle.code_table.specs.Placements.{placements}
use Rattle.plan_rule.specs.declared.literal.Literal.{Literal}
use Rattle.plan_rule.specs.Choices.{Choices, MeetsSome, count}
use Rattle.plan_rule.specs.Bounds.{IsAtMost, IsFit, IsLeastOf, MayFit}
use Rattle.plan_rule.specs.Yards.{choices}
use Rattle.log_checker.specs.declared.exact.Exact.{Exact}
use Rattle.log_checker.specs.ExactBlocks.{ClashesWithOne}

-- the number is below n, and has the property
abbrev pub Below : (ℕ → Type 0) → ℕ → ℕ → Type 0
Below P n x = (x < n) × P x

-- the cost is at most the limit, and below the best one, if there is one
abbrev pub is_better : ℕ → Option ℕ → ℕ → Bool
is_better cost None limit = nat_le cost limit
is_better cost (Some best) limit = nat_lt cost best

-- the least value of the numbers with a property, where it is at most the limit; none where each is above
abbrev pub IsLeastUpTo : (ℕ → Type 0) → (ℕ → ℕ) → ℕ → Option ℕ → Type 0
IsLeastUpTo P value limit None = (x : ℕ) → P x → limit < value x
IsLeastUpTo P value limit (Some n) = IsLeastOf P value (Some n) × (n ≤ limit)

-- a code of the block at which it clashes with no exact block and meets no piece
abbrev pub IsClear : PlainYard → List Exact → ℕ → ℕ → Type 0
IsClear yard exacts b code =
    (code < count (choices yard) b)
    × ((p : Placement) → slice_get (placements yard b) code ≡ Some p → ClashesWithOne yard exacts b p → ⊥)
    × (MeetsSome (choices yard) b code → ⊥)

-- the least cost, where it is at most the limit, of these codes
abbrev pub IsLeastClear : PlainYard → List Exact → ℕ → ℕ → Option ℕ → Type 0
IsLeastClear yard exacts b limit o = IsLeastUpTo (IsClear yard exacts b) ((choices yard).cost b) limit o

-- the same of the codes below n
abbrev pub IsLeastClearBelow : PlainYard → List Exact → ℕ → ℕ → ℕ → Option ℕ → Type 0
IsLeastClearBelow yard exacts b n limit o = IsLeastUpTo (Below (IsClear yard exacts b) n) ((choices yard).cost b) limit o

-- the least cost, where it is at most the limit, of the block's codes that fit the side
abbrev pub IsLeastFit : Choices → List Literal → ℕ → ℕ → Option ℕ → Type 0
IsLeastFit c side b limit o = IsLeastUpTo (MayFit c side b) (c.cost b) limit o

-- the fit of the side, where it is at most the limit; none where it is above, or Never
abbrev pub IsFitUpTo : Choices → List Literal → ℕ → Option ℕ → Type 0
IsFitUpTo c side limit None = (k : Option ℕ) × IsFit c side k × (IsAtMost k limit → ⊥)
IsFitUpTo c side limit (Some n) = IsFit c side (Some n)
