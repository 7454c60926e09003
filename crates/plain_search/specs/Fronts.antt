-- Fronts of plans: the codes of the first blocks, with which the plans under search begin.
use Rattle.std.specs.Prelude.{◌≡◌, ℕ, ◌+◌, ◌-◌, ◌*◌, ◌<◌, ◌≤◌, List, length, slice_index}
use Rattle.common_lists.specs.Each.{sum_below}
use Rattle.plan_rule.specs.Choices.{Choices, MeetsSome, blocks, count}
use Rattle.plan_rule.specs.Plans.{code_of, IsPlan, total}

-- what the first n blocks of a plan cost
abbrev pub cost_below : Choices → ℕ → List ℕ → ℕ
cost_below c n plan = sum_below n (λ b. c.cost b (code_of plan b))

-- codes of the first blocks, no two of which clash and none of which meets a piece
pub record IsFront (c : Choices) (front : List ℕ) : Type 0 where
  pub few : length front ≤ blocks c
  pub in_range : (b : ℕ) → b < length front → code_of front b < count c b
  pub clear : (a b : ℕ) → a < b → b < length front → c.Clash a (code_of front a) b (code_of front b) → ⊥
  pub unmet : (b : ℕ) → b < length front → MeetsSome c b (code_of front b) → ⊥

-- a code of the next block clashes with none of the front, and meets no piece
pub record IsClear (c : Choices) (front : List ℕ) (code : ℕ) : Type 0 where
  pub apart : (a : ℕ) → a < length front → c.Clash a (code_of front a) (length front) code → ⊥
  pub unmet : MeetsSome c (length front) code → ⊥

-- the blocks from b on cost at least this much in every plan
abbrev pub IsFloor : Choices → ℕ → ℕ → Type 0
IsFloor c b floor = (plan : List ℕ) → IsPlan c plan → cost_below c b plan + floor ≤ total c plan

-- some block has no code
abbrev pub IsBare : Choices → Type 0
IsBare c = (b : ℕ) × (b < blocks c) × (count c b ≡ 0)

-- the number at k is what the last k blocks cost at least
pub record AreTails (c : Choices) (tails : List ℕ) : Type 0 where
  pub long : length tails ≡ blocks c + 1
  pub small : (k : ℕ) → k ≤ blocks c → slice_index tails k ≤ 400000 * k
  pub floors : (b : ℕ) → b ≤ blocks c → IsFloor c b (slice_index tails (blocks c - b))
