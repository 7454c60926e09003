-- What is left to each block beside blocks that stand.
use Rattle.std.specs.Prelude.{◌≡◌, ℕ, ◌+◌, ◌<◌, ◌≤◌, List, [], ◌∷◌, ◌++◌, length, Option, Some, None, slice_get}
use Rattle.plan_rule.specs.Boxes.{LeavesFree, HasExact}
use Rattle.plan_rule.specs.Choices.{IsCode}
use Rattle.plan_rule.specs.Yards.{choices}
use Rattle.tardiness_bounds.specs.declared.left.Left.{Left}
use Rattle.tardiness_bounds.specs.declared.left.Left.TheVariants.{Stands, Free, Never}
use Rattle.tardiness_bounds.specs.declared.standing.Standing.{Standing}
use Rattle.tardiness_bounds.specs.Tables.{PlainTables}
use Rattle.tardiness_bounds.specs.Standings.{literals_of}
use Rattle.tardiness_bounds.specs.Witnesses.{HasNoPlace, IsWitness}

-- what is left to the block: the cost of the code at which it stands, its witness, or no code
abbrev pub IsLeft : PlainTables → List Standing → ℕ → Left → Type 0
IsLeft t list b (Stands cost) =
    (code : ℕ) × HasExact (literals_of list) b code × IsCode (choices t.yard) b code × (cost ≡ (choices t.yard).cost b code)
IsLeft t list b (Free w) = LeavesFree (literals_of list) b × IsWitness t list b w
IsLeft t list b Never = LeavesFree (literals_of list) b × HasNoPlace t.yard list b

-- what is left to the first blocks where none stands
abbrev pub AreFirstLefts : PlainTables → List Left → Type 0
AreFirstLefts t lefts = (b : ℕ) (x : Left) → slice_get lefts b ≡ Some x → IsLeft t [] b x

-- from a place on, what is left to each block
pub record AreLefts (t : PlainTables) (list : List Standing) (lefts : List Left) (from : ℕ) : Type 0 where
  pub len : from + length t.yard.blocks ≤ length lefts
  pub each : (b : ℕ) (x : Left) → b < length t.yard.blocks → slice_get lefts (from + b) ≡ Some x → IsLeft t list b x

-- the list ends with a block that no other of it is, and this was left to another block before
pub record IsLeftBefore (t : PlainTables) (list : List Standing) (new : Standing) (b : ℕ) (x : Left) : Type 0 where
  pub before : List Standing
  pub ends : list ≡ before ++ new ∷ []
  pub free : LeavesFree (literals_of before) new.block
  pub left : IsLeft t before b x

-- from a place on, the same of each block
pub record AreLeftsBefore (t : PlainTables) (list : List Standing) (new : Standing) (lefts : List Left) (from : ℕ) : Type 0 where
  pub before : List Standing
  pub ends : list ≡ before ++ new ∷ []
  pub free : LeavesFree (literals_of before) new.block
  pub lefts_are : AreLefts t before lefts from

-- the cost of what is left; none where nothing is
abbrev pub cost_of_left : Left → Option ℕ
cost_of_left (Stands cost) = Some cost
cost_of_left (Free w) = Some w.cost
cost_of_left Never = None
