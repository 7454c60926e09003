-- The codes of a block that citations cover beside a side.
use Rattle.std.specs.Prelude.{◌≡◌, ◌≢◌, ℕ, ◌<◌, ◌≤◌, List, Option, Some, None, ◌↔◌, ◌⊎◌, All, Any}
use Rattle.plan_rule.specs.declared.literal.Literal.{Literal}
use Rattle.plan_rule.specs.Choices.{Choices, IsCode}
use Rattle.plan_rule.specs.Boxes.{IsWhole, Covers, exact, with_literal}
use Rattle.refutation_log.specs.declared.record.Record.{Record}
use Rattle.refutation_log.specs.Steps.{IsCited}
use Rattle.log_checker.specs.declared.span.Span.{Span}

-- the span has the code
abbrev pub IsWithin : Span → ℕ → Type 0
IsWithin span code = (span.lo ≤ code) × (code < span.hi)

-- one of the spans has the code
abbrev pub InOne : List Span → ℕ → Type 0
InOne spans code = Any (λ span. IsWithin span code) spans

-- the codes of the block in one of the spans are those that a cited record covers beside the side
abbrev pub AreCited : Choices → List Record → List ℕ → List Literal → ℕ → List Span → Type 0
AreCited c earlier cites side b spans =
    (code : ℕ) → IsCode c b code → InOne spans code ↔ IsCited c earlier cites (with_literal side (exact b code))

-- there is a span, and it has the code
abbrev pub Has : Option Span → ℕ → Type 0
Has None code = ⊥
Has (Some span) code = IsWithin span code

-- the codes of the block in the span are those with which a box covers the side
abbrev pub IsSpanOf : Choices → List Literal → List Literal → ℕ → Option Span → Type 0
IsSpanOf c box side b span =
    (code : ℕ) → IsCode c b code → Has span code ↔ Covers c box (with_literal side (exact b code))

-- the literal is whole, or holds one of the box
abbrev pub HoldsOne : Choices → List Literal → Literal → Type 0
HoldsOne c box a = IsWhole c a ⊎ Any (λ b. (b.block ≡ a.block) × (a.lo ≤ b.lo) × (b.hi ≤ a.hi)) box

-- each literal on another block is whole, or holds one of the side
abbrev pub HoldOthers : Choices → List Literal → ℕ → List Literal → Type 0
HoldOthers c side b box = All (λ l. l.block ≢ b → HoldsOne c side l) box

-- each literal on the block has the code
abbrev pub HaveCode : List Literal → ℕ → ℕ → Type 0
HaveCode box b code = All (λ l. l.block ≡ b → (l.lo ≤ code) × (code < l.hi)) box
