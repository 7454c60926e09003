-- What is kept of a side while the codes of a block are settled beside it.
use Rattle.std.specs.Prelude.{◌≡◌, ℕ, ◌<◌, ◌≤◌, Bool, List, [], All, Contains, IfSome}
use Rattle.shape_exact.specs.Yards.{PlainYard}
use Rattle.plan_rule.specs.declared.literal.Literal.{Literal}
use Rattle.plan_rule.specs.Choices.{Choices, count}
use Rattle.plan_rule.specs.Boxes.{IsBox}
use Rattle.plan_rule.specs.Yards.{choices}
use Rattle.tardiness_bounds.specs.Besides.{HaveSameExacts}
use Rattle.tardiness_bounds.specs.Numbers.{number}
use Rattle.branch_kernel.specs.States.{State, relied}
use Rattle.branch_kernel.specs.Shows.{IsHandledBy}
use Rattle.branch_search.specs.declared.view.Dear.{Dear}
use Rattle.branch_search.specs.declared.view.SideView.{SideView}
use Rattle.branch_search.specs.Floors.{BeatsFrom}

-- wherever the bound beats its literals, each code of the block that costs as much or more is handled by what is needed
pub record IsDear (c : Choices) (side : List Literal) (needs : ℕ → Bool) (b : ℕ) (dear : Dear) : Type 0 where
  pub box : IsBox c dear.short
  pub covers : (start s : State) (tie : Bool) (x : ℕ) → x < count c b → dear.cost ≤ c.cost b x
      → BeatsFrom c s.bar (relied tie s.best) dear.short (number dear.bound) → IsHandledBy c start s tie side needs [] b x

-- the frontier is of the exact literals of the side, and what is dear is so
pub record IsView (yard : PlainYard) (side : List Literal) (needs : ℕ → Bool) (b : ℕ) (view : SideView) : Type 0 where
  pub yard_is : view.front.yard ≡ yard
  pub exacts : HaveSameExacts view.front.literals side
  pub inside : All (Contains side) view.front.literals
  pub dear_is : IfSome view.dear (IsDear (choices yard) side needs b)
