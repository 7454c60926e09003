-- What a code of a block comes to beside literals.
use Rattle.std.specs.Prelude.{◌≡◌, ℕ, List, Option, Some, None, slice_get}
use Rattle.shape_exact.specs.Yards.{PlainYard}
use Rattle.code_table.specs.declared.placement.Placement.{Placement}
use Rattle.plan_rule.specs.declared.literal.Literal.{Literal}
use Rattle.plan_rule.specs.Choices.{Choices, MeetsSome}
use Rattle.plan_rule.specs.Boxes.{HasExact, exact_code}
use Rattle.plan_rule.specs.Bounds.{MayFit}
use Rattle.tardiness_bounds.specs.declared.beside.Beside.{Beside}
use Rattle.tardiness_bounds.specs.declared.beside.Hindrance.{Hindrance}
use Rattle.tardiness_bounds.specs.declared.beside.Hindrance.TheVariants.{Clash, Piece}
use Rattle.tardiness_bounds.specs.declared.standing.Standing.{Standing}
use Rattle.tardiness_bounds.specs.Standings.{ClashesAt, IsClear, MeetsAt}

-- two boxes have the same exact codes
abbrev pub HaveSameExacts : List Literal → List Literal → Type 0
HaveSameExacts xs ys = (b : ℕ) → exact_code xs b ≡ exact_code ys b

-- one that stands, on this block, clashes with another block at a placement
abbrev pub ClashesBeside : PlainYard → List Standing → ℕ → Placement → ℕ → Type 0
ClashesBeside yard list b p a = (k : ℕ) × (f : Standing) × (slice_get list k ≡ Some f) × (f.block ≡ a) × ClashesAt yard f b p

-- what hinders a block at a placement, if anything does
abbrev pub IsHinderedAt : PlainYard → List Standing → ℕ → Placement → Option Hindrance → Type 0
IsHinderedAt yard list b p None = IsClear yard list b p
IsHinderedAt yard list b p (Some (Clash a)) = ClashesBeside yard list b p a
IsHinderedAt yard list b p (Some Piece) = (i : ℕ) × MeetsAt yard b p i

-- what hinders a code of a block beside a box, if anything does: an exact code of another block, or a piece
abbrev pub IsHindered : Choices → List Literal → ℕ → ℕ → Option Hindrance → Type 0
IsHindered c box b code None = MayFit c box b code
IsHindered c box b code (Some (Clash a)) = (d : ℕ) × HasExact box a d × c.Clash a d b code
IsHindered c box b code (Some Piece) = MeetsSome c b code

-- what the code costs, and what hinders it
pub record TellsBeside (c : Choices) (box : List Literal) (b code : ℕ) (told : Beside) : Type 0 where
  pub cost_is : told.cost ≡ c.cost b code
  pub hindered : IsHindered c box b code told.hindrance
