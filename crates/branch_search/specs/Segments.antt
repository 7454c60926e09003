-- Segments of a range: codes of it, one after another, that a search settles together.
use Rattle.std.specs.Prelude.{◌≡◌, ℕ, ◌+◌, ◌<◌, ◌≤◌, ◌⊎◌, List, Contains}
use Rattle.plan_rule.specs.declared.literal.Literal.{Literal}

-- codes of the range, one after another; where they are several, they are not all of its codes
pub record IsSegment (range segment : Literal) : Type 0 where
  pub block : segment.block ≡ range.block
  pub low : range.lo ≤ segment.lo
  pub high : segment.hi ≤ range.hi
  pub part : segment.lo + 1 < segment.hi → (range.lo < segment.lo) ⊎ (segment.hi < range.hi)

-- each code of the range is in one of the segments
abbrev pub HaveAll : Literal → List Literal → Type 0
HaveAll range segments =
    (code : ℕ) → range.lo ≤ code → code < range.hi
    → (segment : Literal) × Contains segments segment × (segment.lo ≤ code) × (code < segment.hi)
