-- The text of a plan.
use Rattle.std.specs.Prelude.{ℕ, ◌-◌, Bool, nat_lt, if◌then◌else◌, List, [], ◌∷◌, ◌++◌, length, Option, Some, None, slice_get, codes}
use Rattle.std.specs.List.{join_with_byte, list_any}
use Rattle.std.specs.Option.{option_map_or}
use Rattle.std.specs.Fmt.{decimal}
use Rattle.shape_exact.specs.Yards.{PlainYard}
use Rattle.common_lists.specs.Each.{each}
use Rattle.shape_exact.specs.declared.block.Block.{Block}
use Rattle.code_table.specs.declared.placement.Placement.{Placement}
use Rattle.code_table.specs.Placements.{placements}
use Rattle.plan_rule.specs.Plans.{code_of, total}
use Rattle.plan_rule.specs.Yards.{choices}

-- the words, with one space between each two, and a line feed
abbrev pub line : List (List ℕ) → List ℕ
line words = join_with_byte 32 words ++ 10 ∷ []

-- the name of the plate with this number
abbrev pub plate_name : PlainYard → ℕ → List ℕ
plate_name yard p = option_map_or (λ plate. plate.name) (slice_get yard.plates p) []

-- whether the yard's plan texts tell early days: where a block of it has a cost for them
unfoldable pub tells_early : PlainYard → Bool
tells_early yard = list_any (λ (b : Block). nat_lt 0 b.early) yard.blocks

-- the first line of the yard's plan texts
abbrev pub head : PlainYard → List ℕ
head yard = if tells_early yard then codes "plan 2" else codes "plan 1"

-- the words with which a block's line ends: on its tardiness and, where they are told, on its early days
abbrev pub last_words : Bool → ℕ → ℕ → List (List ℕ)
last_words with_early due end =
    codes "tardiness" ∷ decimal (end - due)
    ∷ (if with_early then codes "early" ∷ decimal (due - end) ∷ [] else [])

-- the line of a block that stands at a placement on a plate of this name, with or without its early days
unfoldable pub block_line : Bool → List ℕ → ℕ → List ℕ → Placement → List ℕ
block_line with_early name due plate p = line (
    codes "block" ∷ name ∷ codes "plate" ∷ plate ∷ codes "turn" ∷ decimal p.turn
    ∷ codes "x" ∷ decimal p.x ∷ codes "y" ∷ decimal p.y ∷ codes "start" ∷ decimal p.start
    ∷ codes "end" ∷ decimal p.end ∷ last_words with_early due p.end)

-- the line of a block at a placement, where there are both
abbrev pub row_at : PlainYard → Option Block → Option Placement → List ℕ
row_at yard None p = []
row_at yard (Some block) None = []
row_at yard (Some block) (Some p) = block_line (tells_early yard) block.name block.due (plate_name yard p.plate) p

-- the line of a block at its code in the plan
abbrev pub row_text : PlainYard → List ℕ → ℕ → List ℕ
row_text yard plan b = row_at yard (slice_get yard.blocks b) (slice_get (placements yard b) (code_of plan b))

-- the lines of the blocks, in file order
unfoldable pub rows_text : PlainYard → List ℕ → List ℕ
rows_text yard plan = each (length yard.blocks) (row_text yard plan)

-- the head, a line for each block, and the total; `no plan` where there is none
unfoldable pub plan_text : PlainYard → Option (List ℕ) → List ℕ
plan_text yard None = line (codes "no" ∷ codes "plan" ∷ [])
plan_text yard (Some plan) =
    line (head yard ∷ []) ++ rows_text yard plan
    ++ line (codes "total" ∷ decimal (total (choices yard) plan) ∷ [])
