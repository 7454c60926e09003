-- A walk over the codes of a block, by their placements and costs and by spans of codes.
use Rattle.std.specs.Prelude.{◌≡◌, ℕ, ◌<◌, ◌≤◌, List, Option, Some, MatchOption, slice_get, ◌⊎◌}
use Rattle.std.specs.List.{AllWithin}
use Rattle.shape_exact.specs.Yards.{PlainYard}
use Rattle.code_table.specs.declared.placement.Placement.{Placement}
use Rattle.code_table.specs.Placements.{placements}
use Rattle.plan_rule.specs.Choices.{MeetsSome}
use Rattle.plan_rule.specs.Yards.{choices}
use Rattle.log_checker.specs.declared.cut.Cut.{Cut}
use Rattle.log_checker.specs.declared.exact.Exact.{Exact}
use Rattle.log_checker.specs.declared.span.Span.{Span}
use Rattle.log_checker.specs.Cuts.{Takes}
use Rattle.log_checker.specs.ExactBlocks.{ClashesWithOne}
use Rattle.log_checker.specs.Spans.{InOne}

-- the first spans end at the code or before it
abbrev pub ArePassed : List Span → ℕ → ℕ → Type 0
ArePassed spans n code = AllWithin (λ s. s.hi ≤ code) spans 0 n

-- the placement of the code clashes with one of the exact blocks
abbrev pub CodeClashes : PlainYard → List Exact → ℕ → ℕ → Type 0
CodeClashes yard exacts b code = (p : Placement) × (slice_get (placements yard b) code ≡ Some p) × ClashesWithOne yard exacts b p

-- the code's placement clashes with one of the exact blocks, or meets a piece
abbrev pub IsHindered : PlainYard → List Exact → ℕ → ℕ → Type 0
IsHindered yard exacts b code = CodeClashes yard exacts b code ⊎ MeetsSome (choices yard) b code

-- the code is hindered, or the cut takes it, or one of the spans has it
abbrev pub IsSettled : PlainYard → ℕ → Cut → List Exact → List Span → ℕ → Type 0
IsSettled yard b cut exacts spans code =
    IsHindered yard exacts b code ⊎ Takes cut ((choices yard).cost b code) code ⊎ InOne spans code

-- the first number of a range without a property
pub record IsFirstWithout (P : ℕ → Type 0) (lo hi n : ℕ) : Type 0 where
  pub from : lo ≤ n
  pub below : n < hi
  pub before : (k : ℕ) → lo ≤ k → k < n → P k
  pub here : P n → ⊥

-- of none: each number of the range has the property; else it is the first without it
abbrev pub TellsFirstWithout : (ℕ → Type 0) → ℕ → ℕ → Option ℕ → Type 0
TellsFirstWithout P lo hi found = MatchOption found ((n : ℕ) → lo ≤ n → n < hi → P n) (IsFirstWithout P lo hi)
