-- How a code that is settled may settle all codes beside its side.
use Rattle.std.specs.Prelude.{◌≡◌, ℕ, ◌+◌, true, List, Some, length}
use Rattle.plan_rule.specs.declared.literal.Literal.{Literal}
use Rattle.plan_rule.specs.Choices.{Choices}
use Rattle.branch_kernel.specs.States.{State}
use Rattle.branch_kernel.specs.Shows.{IsShown}
use Rattle.branch_search.specs.declared.own.Settled.{Settled}

-- where the answer jumps, the record that it cites is the log's last and shows the side itself
abbrev pub Jumps : Choices → State → State → List Literal → Settled → Type 0
Jumps c start now side r =
    r.jumps ≡ true → (k : ℕ) → r.covered.cite ≡ Some k
    → (k + 1 ≡ length now.log) × IsShown c start now r.covered.tie k side
