-- The free codes of a block, one after another.
use Rattle.std.specs.Prelude.{◌≡◌, ℕ, ◌+◌, ◌<◌, ◌≤◌, List, length, Option, Some, None, All}
use Rattle.shape_exact.specs.Yards.{PlainYard}
use Rattle.code_table.specs.Placements.{placements}
use Rattle.plan_rule.specs.declared.literal.Literal.{Literal}
use Rattle.plan_rule.specs.Boxes.{LeavesFree}
use Rattle.plan_rule.specs.Choices.{count}
use Rattle.plan_rule.specs.Yards.{choices}
use Rattle.tardiness_bounds.specs.declared.standing.Standing.{Standing}
use Rattle.tardiness_bounds.specs.declared.walk.Walk.{Walk}
use Rattle.tardiness_bounds.specs.Firsts.{IsFirst}
use Rattle.tardiness_bounds.specs.Nexts.{MayFitUpTo}
use Rattle.tardiness_bounds.specs.Standings.{IsStanding, StandOnce, literals_of}
use Rattle.tardiness_bounds.specs.Walks.{IsWalk}

-- a yard, literals, a block, a cost, and the code from which on the next one is
pub record PlainFreeCodes : Type 0 where
  pub yard : PlainYard
  pub literals : List Literal
  pub block : ℕ
  pub most : ℕ
  pub from : ℕ

-- what is left after an answer: the codes after it, and none where there was none
abbrev pub after : PlainFreeCodes → Option ℕ → PlainFreeCodes
after s None = record s { from = count (choices s.yard) s.block }
after s (Some code) = record s { from = code + 1 }

-- the first of the codes from there on that fits and costs at most so much; none where there is none
abbrev pub GivesNext : PlainFreeCodes → Option ℕ → PlainFreeCodes → Type 0
GivesNext s r t =
    IsFirst (MayFitUpTo (choices s.yard) s.literals s.block s.most) s.from (count (choices s.yard) s.block) r × (t ≡ after s r)

-- the blocks that stand, a block that does not, and a walk over its codes
pub record AreFreeCodes (yard : PlainYard) (list : List Standing) (b most : ℕ) (w : Walk) : Type 0 where
  pub standing : All (IsStanding yard) list
  pub once : StandOnce list
  pub few : length list ≤ 32
  pub block : b < length yard.blocks
  pub free : LeavesFree (literals_of list) b
  pub within : w.from ≤ length (placements yard b)
  pub walk : IsWalk yard list b most w
