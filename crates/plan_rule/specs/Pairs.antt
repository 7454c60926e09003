-- The pairs of blocks whose codes in a plan clash.
use Rattle.std.specs.Prelude.{ℕ, ◌<◌, List}
use Rattle.plan_rule.specs.Choices.{Choices, blocks}
use Rattle.plan_rule.specs.Plans.{code_of}

-- the plan's codes of two blocks clash
abbrev pub ClashIn : Choices → List ℕ → ℕ → ℕ → Type 0
ClashIn c plan a b = c.Clash a (code_of plan a) b (code_of plan b)

-- the plan's code of a block clashes with that of a later block
abbrev pub ClashesAfter : Choices → List ℕ → ℕ → Type 0
ClashesAfter c plan a = (b : ℕ) × (a < b) × (b < blocks c) × ClashIn c plan a b

-- the first of these later blocks
pub record IsFirstAfter (c : Choices) (plan : List ℕ) (a b : ℕ) : Type 0 where
  pub later : a < b
  pub block : b < blocks c
  pub clash : ClashIn c plan a b
  pub first : (k : ℕ) → a < k → k < b → ClashIn c plan a k → ⊥

-- the first block with such a later block, and the first of its later blocks
pub record IsFirstPair (c : Choices) (plan : List ℕ) (a b : ℕ) : Type 0 where
  pub second : IsFirstAfter c plan a b
  pub first : (k : ℕ) → k < a → ClashesAfter c plan k → ⊥
