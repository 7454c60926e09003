-- The order of placements.
use Rattle.std.specs.Prelude.{◌≡◌, ℕ, ◌<◌, ◌≤◌, ◌⊎◌, List, Some, slice_get}
use Rattle.code_table.specs.declared.placement.Placement.{Placement}

-- the first number is less, or the numbers are equal and what follows holds
abbrev pub LessThen : ℕ → ℕ → Type 0 → Type 0
LessThen a b Rest = (a < b) ⊎ ((a ≡ b) × Rest)

-- by start, then plate, then turn, then y, then x
abbrev pub ComesBefore : Placement → Placement → Type 0
ComesBefore p q =
    LessThen p.start q.start (LessThen p.plate q.plate (LessThen p.turn q.turn (LessThen p.y q.y (p.x < q.x))))

-- each placement of a list comes before each later one
abbrev pub AreAscending : List Placement → Type 0
AreAscending ps =
    (i j : ℕ) (p q : Placement) → i < j → slice_get ps i ≡ Some p → slice_get ps j ≡ Some q → ComesBefore p q

-- of two placements of a list on one plate the later one ends no earlier
abbrev pub EndsAscend : List Placement → Type 0
EndsAscend ps =
    (i j : ℕ) (p q : Placement) → i < j → slice_get ps i ≡ Some p → slice_get ps j ≡ Some q → p.plate ≡ q.plate → p.end ≤ q.end
