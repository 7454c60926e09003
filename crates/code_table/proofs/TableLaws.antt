-- Tables of blocks, and their sums.
use Rattle.std.proofs.Common.{◌≡◌, ℕ, ◌-◌, ◌≤◌, ◌<◌, List, [], ◌∷◌, ◌++◌, length, get_or, Some, sym, ap, ◌∙◌, subst, arith, inl, inr}
use Rattle.std.specs.Prelude.{slice_get}
use Rattle.std.proofs.lemmas.Option.{same_Some, slice_get_past}
use Rattle.std.proofs.lemmas.Bool.{cases_lt}
use Rattle.common_lists.specs.Each.{for_some}
use Rattle.common_lists.proofs.ListLaws.{only_element, element_at}
use Rattle.shape_exact.specs.Yards.{PlainYard}
use Rattle.shape_exact.specs.declared.block.Block.{Block}
use Rattle.common_lists.proofs.EachLaws.{get-append_cases}
use Rattle.code_table.specs.declared.table.Table.{Table}
use Rattle.code_table.specs.Placements.{placements, placements_of}
use Rattle.code_table.specs.Stands.{stands}
use Rattle.code_table.specs.Tables.{IsSums, IsTable, IsCoded}
use Rattle.code_table.proofs.StandLaws.{length-placements, placements-of}

-- each block so far has its table
abbrev pub HasTables : PlainYard → List Block → List Table → Type 0
HasTables yard blocks tables =
    (b : ℕ) (block : Block) (t : Table) → slice_get blocks b ≡ Some block → slice_get tables b ≡ Some t → IsTable yard block t

-- one table more
pub tables_more : (yard : PlainYard) (blocks : List Block) (tables more : List Table) (i : ℕ) (block : Block) (t : Table)
    → length tables ≡ i → HasTables yard blocks tables → slice_get blocks i ≡ Some block → IsTable yard block t → more ≡ tables ++ t ∷ []
    → HasTables yard blocks more
tables_more yard blocks tables more i block t long old at is pushed b bl tb in_blocks in_tables =
    elim (get-append_cases tables (t ∷ []) b tb (ap (λ ts. slice_get ts b) (sym pushed) ∙ in_tables)) [
      | inl front ↦ old b bl tb in_blocks front
      | inr back ↦
          let (m, here, where_is) = back in
          let (first, same) = only_element t tb m here in
          let e : b ≡ i = omega arith in
          let f : block ≡ bl = same_Some block bl (sym at ∙ ap (slice_get blocks) (sym e) ∙ in_blocks) in
          subst (λ bl. IsTable yard bl tb) f (subst (IsTable yard block) same is)
    ]

-- the last sum is the number of placements
pub count_at : (yard : PlainYard) (block : Block) (sums : List ℕ) → IsSums yard block sums
    → get_or sums (length sums - 1) 0 ≡ length (placements_of yard block)
count_at yard block sums s =
    ap (λ n. get_or sums n 0) (let l = s.len in let e : length sums - 1 ≡ stands yard = omega arith in e)
    ∙ s.counted (stands yard) (omega arith) ∙ sym (length-placements yard block)

-- a block that was read has its table
pub table_at : (yard : PlainYard) (calendars : List (List ℕ)) (tables : List Table) (b : ℕ) (t : Table) → IsCoded yard calendars tables
    → b < length yard.blocks → slice_get tables b ≡ Some t → (block : Block) × (slice_get yard.blocks b ≡ Some block) × IsTable yard block t
table_at yard calendars tables b t c l at =
    let (block, is) = element_at yard.blocks b l in (block, is, c.tables.each_is b block t is at)

-- no block has more than 1,048,576 placements
pub all_few : (yard : PlainYard) (calendars : List (List ℕ)) (tables : List Table) (b : ℕ) → IsCoded yard calendars tables
    → length (placements yard b) ≤ 1048576
all_few yard calendars tables b c = elim (cases_lt b (length yard.blocks)) [
  | inl within ↦
      let l : b < length tables = let e = c.tables.one_each in omega arith in
      let (t, at) = element_at tables b l in
      let (block, is, table) = table_at yard calendars tables b t c within at in
      let few = table.few in
      let e : length (placements yard b) ≡ length (placements_of yard block) = ap length (placements-of yard b block is) in
      omega arith
  | inr past ↦
      let e : length (placements yard b) ≡ 0 =
      ap (λ o. length (for_some o (placements_of yard))) (slice_get_past yard.blocks b past) in
      omega arith
]
