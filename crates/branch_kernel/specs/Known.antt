-- What the choices of every yard keep.
use Rattle.std.specs.Prelude.{ℕ, ◌≤◌, List}
use Rattle.code_table.specs.Sizes.{most_placements}
use Rattle.plan_rule.specs.declared.literal.Literal.{Literal}
use Rattle.plan_rule.specs.Choices.{Choices, blocks, count}
use Rattle.plan_rule.specs.Laws.{AreSmall, IsSound}
use Rattle.plan_rule.specs.Bounds.{IsEnergy}

-- what the choices of every yard keep
pub record AreKnown (c : Choices) : Type 0 where
  pub small : AreSmall c
  pub energy : (box : List Literal) (first last : ℕ) → IsSound c box (IsEnergy c first last box)
  pub mutual_clash : (a d b e : ℕ) → c.Clash a d b e → c.Clash b e a d
  pub few : blocks c ≤ 32
  pub counts : (b : ℕ) → count c b ≤ most_placements
