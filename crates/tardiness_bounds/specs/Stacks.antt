-- The literals that were pushed, and what the first of them leave to each block.
use Rattle.std.specs.Prelude.{◌≡◌, ℕ, ◌+◌, ◌*◌, ◌≤◌, List, length, take, All}
use Rattle.shape_exact.specs.Yards.{PlainYard, IsYard}
use Rattle.plan_rule.specs.declared.literal.Literal.{Literal}
use Rattle.plan_rule.specs.Boxes.{LeavesFree}
use Rattle.plan_rule.specs.Choices.{IsCode}
use Rattle.plan_rule.specs.Yards.{choices}
use Rattle.tardiness_bounds.specs.declared.left.Left.{Left}
use Rattle.tardiness_bounds.specs.declared.standing.Standing.{Standing}
use Rattle.tardiness_bounds.specs.Tables.{PlainTables}
use Rattle.tardiness_bounds.specs.Lefts.{AreLefts}
use Rattle.tardiness_bounds.specs.Standings.{StandOnce, IsStanding}

-- a yard, and the literals that were pushed, the first one first
pub record PlainFrontier : Type 0 where
  pub yard : PlainYard
  pub literals : List Literal

-- the literal of a code of a block that has none may be pushed
pub record CanPush (p : PlainFrontier) (block code : ℕ) : Type 0 where
  pub is_code : IsCode (choices p.yard) block code
  pub free : LeavesFree p.literals block

-- what each number of the first blocks that stand leaves to each block, one number after another
pub record IsStack (t : PlainTables) (list : List Standing) (lefts : List Left) (capacity : ℕ) : Type 0 where
  pub limits : IsYard t.yard
  pub room : 1056 ≤ capacity
  pub len : length lefts ≡ (length list + 1) * length t.yard.blocks
  pub few : length list ≤ length t.yard.blocks
  pub standing : All (IsStanding t.yard) list
  pub each : (k : ℕ) → k ≤ length list → AreLefts t (take k list) lefts (k * length t.yard.blocks)
  pub once : StandOnce list
