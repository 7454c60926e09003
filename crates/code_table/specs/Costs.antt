-- The least cost of placements.
use Rattle.std.specs.Prelude.{◌≡◌, ℕ, ◌≤◌, ◌<◌, length, List, [], Option, Some, None, slice_get, min}
use Rattle.shape_exact.specs.Yards.{PlainYard}
use Rattle.shape_exact.specs.declared.block.Block.{Block}
use Rattle.code_table.specs.declared.placement.Placement.{Placement}
use Rattle.code_table.specs.Placements.{cost_at, own_cost, placements}

-- the least cost of a list of placements of a block: none where the list is empty
abbrev pub IsLeastCost : Block → List Placement → Option ℕ → Type 0
IsLeastCost block ps None = ps ≡ []
IsLeastCost block ps (Some c) =
    ((k : ℕ) (p : Placement) → slice_get ps k ≡ Some p → c ≤ cost_at block p)
    × ((k : ℕ) × (p : Placement) × (slice_get ps k ≡ Some p) × (cost_at block p ≡ c))

-- the less of two costs, where there are two
abbrev pub lesser : Option ℕ → Option ℕ → Option ℕ
lesser None b = b
lesser (Some a) None = Some a
lesser (Some a) (Some b) = Some (min a b)

-- a cost is at most that of each code of a block
abbrev pub IsAtMostEachCost : PlainYard → ℕ → ℕ → Type 0
IsAtMostEachCost yard b c = (code : ℕ) → code < length (placements yard b) → c ≤ own_cost yard b code

-- a cost is that of a code of a block
abbrev pub IsCostOfSome : PlainYard → ℕ → ℕ → Type 0
IsCostOfSome yard b c = (code : ℕ) × (code < length (placements yard b)) × (own_cost yard b code ≡ c)
