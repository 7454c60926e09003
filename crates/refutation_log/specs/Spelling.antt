-- The one text of a log.
use Rattle.std.specs.Prelude.{ℕ, ◌+◌, ◌<◌, ◌≤◌, ◌==◌, if◌then◌else◌, List, [], ◌∷◌, ◌++◌, map, codes}
use Rattle.std.specs.List.{flat_map, join_with_byte, AllByRecursion}
use Rattle.std.specs.Fmt.{decimal}
use Rattle.code_table.specs.Sizes.{most_placements}
use Rattle.plan_rule.specs.declared.literal.Literal.{Literal}
use Rattle.refutation_log.specs.Citations.{Ascend, AreCites}
use Rattle.refutation_log.specs.declared.record.Record.{Record}
use Rattle.refutation_log.specs.declared.record.Record.TheVariants.{Branch, Fit, Energy}

-- one code, or the first of two or more and the end
abbrev pub span_text : ℕ → ℕ → List ℕ
span_text lo hi = if hi == lo + 1 then decimal lo else decimal lo ++ 46 ∷ 46 ∷ decimal hi

-- a block, a colon and its codes
unfoldable pub literal_text : Literal → List ℕ
literal_text l = decimal l.block ++ 58 ∷ span_text l.lo l.hi

-- the texts of some things with commas between them, or `-`
abbrev pub list_text : {X : Type 0} → (X → List ℕ) → List X → List ℕ
list_text text [] = 45 ∷ []
list_text text (x ∷ xs) = join_with_byte 44 (map text (x ∷ xs))

-- the literals of a side
unfoldable pub side_text : List Literal → List ℕ
side_text side = list_text literal_text side

-- the citations of a record
unfoldable pub cites_text : List ℕ → List ℕ
cites_text cites = list_text decimal cites

-- the fields of a record's line, which have a space between them
abbrev pub fields : Record → List (List ℕ)
fields (Branch block lo hi side cites) =
    codes "branch" ∷ decimal block ∷ decimal lo ∷ decimal hi ∷ side_text side ∷ cites_text cites ∷ []
fields (Fit side) = codes "fit" ∷ side_text side ∷ []
fields (Energy from to side) = codes "energy" ∷ decimal from ∷ decimal to ∷ side_text side ∷ []

-- the fields of a record with a space between them
unfoldable pub record_text : Record → List ℕ
record_text r = join_with_byte 32 (fields r)

-- a record's line
abbrev pub line_text : Record → List ℕ
line_text r = record_text r ++ 10 ∷ []

-- the head, a line for each record, and the line that ends the log
unfoldable pub log_text : List Record → List ℕ
log_text records = codes "log 1\n" ++ (flat_map line_text records ++ codes "end\n")

-- a literal that has a text
pub record IsLiteral (l : Literal) : Type 0 where
  pub block : l.block ≤ 31
  pub span : l.lo < l.hi
  pub hi : l.hi ≤ most_placements

-- a side that has a text
abbrev pub IsSide : List Literal → Type 0
IsSide side = Ascend (λ (l : Literal). l.block) 0 side × AllByRecursion IsLiteral side

-- a record that has a text
abbrev pub HasText : Record → Type 0
HasText (Branch block lo hi side cites) = (block ≤ 31) × (lo ≤ hi) × (hi ≤ most_placements) × IsSide side × AreCites cites
HasText (Fit side) = IsSide side
HasText (Energy from to side) = (from ≤ to) × (to ≤ 399) × IsSide side

-- each record has a text
abbrev pub HaveText : List Record → Type 0
HaveText records = AllByRecursion HasText records
