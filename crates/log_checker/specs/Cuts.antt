-- The codes of a block that the base refutes beside a side.
use Rattle.std.specs.Prelude.{◌≡◌, ℕ, ◌+◌, ◌<◌, ◌≤◌, List, Option, Some, None, ◌⊎◌, ◌↔◌}
use Rattle.plan_rule.specs.declared.literal.Literal.{Literal}
use Rattle.plan_rule.specs.Choices.{Choices, IsCode}
use Rattle.plan_rule.specs.Boxes.{exact, with_literal}
use Rattle.plan_rule.specs.Bounds.{IsBase, Refutes}
use Rattle.log_checker.specs.declared.cut.Cut.{Cut}
use Rattle.log_checker.specs.declared.cut.Cut.TheVariants.{Every, Nothing, Above}

-- the base of the side with this code refutes that box
abbrev pub IsRefuted : Choices → Option (List ℕ) → List Literal → ℕ → ℕ → Type 0
IsRefuted c t side b code =
    (k : Option ℕ) × IsBase c (with_literal side (exact b code)) k × Refutes c t (with_literal side (exact b code)) k

-- a cut takes a code of this cost
abbrev pub Takes : Cut → ℕ → ℕ → Type 0
Takes Every cost code = Unit {0}
Takes Nothing cost code = ⊥
Takes (Above limit ties) cost code = (limit < cost) ⊎ ((cost ≡ limit) × (ties ≤ code))

-- the codes of the block that a cut takes are those that the base refutes
abbrev pub IsCut : Choices → Option (List ℕ) → List Literal → ℕ → Cut → Type 0
IsCut c t side b cut = (code : ℕ) → IsCode c b code → Takes cut (c.cost b code) code ↔ IsRefuted c t side b code

-- the base of the side with a code of the block is the number and the code's own cost; it is Never where there is none
abbrev pub IsRest : Choices → List Literal → ℕ → Option ℕ → Type 0
IsRest c side b None = (code : ℕ) → IsCode c b code → IsBase c (with_literal side (exact b code)) None
IsRest c side b (Some rest) =
    (code : ℕ) → IsCode c b code → IsBase c (with_literal side (exact b code)) (Some (rest + c.cost b code))
