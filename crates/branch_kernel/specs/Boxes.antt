-- Boxes made of boxes, and what is exact in them.
use Rattle.std.specs.Prelude.{◌≡◌, ◌≢◌, ℕ, ◌<◌, ◌⊎◌, Bool, List, Option, Some, None, All, Contains, filter, if◌then◌else◌, ◌==◌, ◌&&◌, not}
use Rattle.common_lists.specs.Each.{sum_below}
use Rattle.plan_rule.specs.declared.literal.Literal.{Literal}
use Rattle.plan_rule.specs.Choices.{Choices, MeetsSome, blocks, count}
use Rattle.plan_rule.specs.Plans.{code_of}
use Rattle.plan_rule.specs.Boxes.{Holds, IsBox, HasExact, LeavesFree, exact_code, exact, with_literal}

-- no two exact codes of the box clash, and none of them meets a piece
pub record IsClear (c : Choices) (box : List Literal) : Type 0 where
  pub apart : (a b d e : ℕ) → HasExact box a d → HasExact box b e → a ≢ b → c.Clash a d b e → ⊥
  pub unmet : (a d : ℕ) → HasExact box a d → MeetsSome c a d → ⊥

-- an exact code of the box clashes with the code
abbrev pub Clashes : Choices → List Literal → ℕ → ℕ → Type 0
Clashes c box b code = (a : ℕ) × (d : ℕ) × HasExact box a d × c.Clash a d b code

-- each block is exact in the box, with the plan's code
abbrev pub HasExactAll : Choices → List Literal → List ℕ → Type 0
HasExactAll c box q = (b : ℕ) → b < blocks c → HasExact box b (code_of q b)

-- each block is exact in the box
abbrev pub IsWholePlan : Choices → List Literal → Type 0
IsWholePlan c box = (b : ℕ) → b < blocks c → (d : ℕ) × HasExact box b d

-- 1 where there is no code, else 0
abbrev pub free_mark : Option ℕ → ℕ
free_mark None = 1
free_mark (Some code) = 0

-- how many blocks are not exact in the box
abbrev pub inexact : Choices → List Literal → ℕ
inexact c box = sum_below (blocks c) (λ b. free_mark (exact_code box b))

-- another block than this one
abbrev pub others : ℕ → ℕ → Bool
others block b = not (b == block)

-- the literals of the side on the blocks that are kept
abbrev pub kept : (ℕ → Bool) → List Literal → List Literal
kept keep side = filter (λ l. keep l.block) side

-- the box of a node
abbrev pub node_box : Choices → List Literal → ℕ → ℕ → ℕ → List Literal
node_box c side b lo hi =
    if (lo == 0) && (hi == count c b) then side else with_literal side (record { block = b; lo = lo; hi = hi })

-- the box's literal on the block, or the block's whole range where the box has none
abbrev pub IsRangeOn : Choices → List Literal → ℕ → Literal → Type 0
IsRangeOn c part b l =
    (l.block ≡ b) × (Contains part l ⊎ (LeavesFree part b × (l.lo ≡ 0) × (l.hi ≡ count c b)))

-- the box in which the first n blocks are exact with these codes, and which has no other literal
pub record IsFront (c : Choices) (codes : List ℕ) (n : ℕ) (box : List Literal) : Type 0 where
  pub is : IsBox c box
  pub only : All (λ l. (l.block < n) × (l ≡ exact l.block (code_of codes l.block))) box
  pub has : (b : ℕ) → b < n → Contains box (exact b (code_of codes b))
  pub extends : (q : List ℕ) → Holds box q → (b : ℕ) → b < n → code_of codes b ≡ code_of q b
  pub holds : (q : List ℕ) → ((b : ℕ) → b < n → code_of codes b ≡ code_of q b) → Holds box q
