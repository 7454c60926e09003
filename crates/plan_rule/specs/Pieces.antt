-- The fixed pieces that codes meet.
use Rattle.std.specs.Prelude.{ℕ, ◌<◌, List}
use Rattle.plan_rule.specs.Choices.{Choices, MeetsSome, blocks}
use Rattle.plan_rule.specs.Plans.{code_of}

-- the first piece that a code meets
pub record IsFirstMet (c : Choices) (b code i : ℕ) : Type 0 where
  pub meets : c.Meets b code i
  pub first : (k : ℕ) → k < i → c.Meets b code k → ⊥

-- the first block of a plan whose code meets a piece, and the first piece that it meets
pub record IsFirstMeeting (c : Choices) (plan : List ℕ) (b i : ℕ) : Type 0 where
  pub block : b < blocks c
  pub piece : IsFirstMet c b (code_of plan b) i
  pub first : (a : ℕ) → a < b → MeetsSome c a (code_of plan a) → ⊥
