-- What a text is read as: the record of a line, and the log of all the bytes or its first fault.
use Rattle.std.specs.Prelude.{◌≡◌, ℕ, ◌+◌, ◌-◌, ◌==◌, nat_le, if◌then◌else◌, List, [], ◌∷◌, Option, Some, None, Result, Ok, Err, codes, ◌++◌, decimal}
use Rattle.std.specs.List.{slice_split}
use Rattle.std.specs.Str.{bytes_eq}
use Rattle.code_table.specs.Sizes.{most_placements}
use Rattle.plan_rule.specs.declared.literal.Literal.{Literal}
use Rattle.refutation_log.specs.declared.record.Record.{Record}
use Rattle.refutation_log.specs.declared.record.Record.TheVariants.{Branch, Fit, Energy}
use Rattle.refutation_log.specs.declared.fault.LogFault.{LogFault}
use Rattle.refutation_log.specs.declared.fault.LogFault.TheVariants.{Head, Line, NoEnd, Rest, Memory}
use Rattle.refutation_log.specs.declared.fault.Unread.{Unread}
use Rattle.refutation_log.specs.declared.fault.Unread.TheVariants as unread
use Rattle.text_parts.specs.Parts.{◌>>=◌, cut, field, number_of}

-- one code, or two dots and an end that leaves two codes or more
abbrev pub span_at : ℕ → List ℕ → Option (List ℕ × List ℕ) → Option Literal
span_at block text None = number_of (most_placements - 1) text >>= λ lo. Some (record { block = block; lo = lo; hi = lo + 1 })
span_at block text (Some (lo, [])) = None
span_at block text (Some (lo, c ∷ hi)) =
    if c == 46
    then (number_of most_placements lo >>= λ l. number_of most_placements hi >>= λ h. if nat_le (l + 2) h then Some (record { block = block; lo = l; hi = h }) else None)
    else None

-- the literal of a block whose codes are spelled so
unfoldable pub span_of : ℕ → List ℕ → Option Literal
span_of block text = span_at block text (cut 46 text)

-- the literal that is spelled so: a block, a colon and its codes
unfoldable pub literal_of : List ℕ → Option Literal
literal_of text = field (number_of 31) 58 text >>= λ b. span_of b.0 b.1

-- the citation that is spelled so: a number below 10^18
unfoldable pub cite_of : List ℕ → Option ℕ
cite_of text = number_of 999999999999999999 text

-- what a text is, where its key is at least n
abbrev pub next_of : {X : Type 0} → (X → ℕ) → (List ℕ → Option X) → ℕ → List ℕ → Option X
next_of key read n text = read text >>= λ x. if nat_le n (key x) then Some x else None

-- what some pieces are, whose keys ascend from n
abbrev pub ascending : {X : Type 0} → (X → ℕ) → (List ℕ → Option X) → ℕ → List (List ℕ) → Option (List X)
ascending key read n [] = Some []
ascending key read n (t ∷ ts) = next_of key read n t >>= λ x. ascending key read (key x + 1) ts >>= λ xs. Some (x ∷ xs)

-- what the pieces between the commas are, or nothing for `-`
abbrev pub list_of : {X : Type 0} → (X → ℕ) → (List ℕ → Option X) → List ℕ → Option (List X)
list_of key read text =
    if bytes_eq text (45 ∷ []) then Some [] else ascending key read 0 (slice_split (λ b. b == 44) text)

-- the side that is spelled so: literals that ascend by block
unfoldable pub side_of : List ℕ → Option (List Literal)
side_of text = list_of (λ (l : Literal). l.block) literal_of text

-- the citations that are spelled so: ascending numbers
unfoldable pub cites_of : List ℕ → Option (List ℕ)
cites_of text = list_of (λ k. k) cite_of text

-- the branch whose fields after the first word are spelled so
unfoldable pub branch_of : List ℕ → Option Record
branch_of text = do
  block ← field (number_of 31) 32 text
  lo ← field (number_of most_placements) 32 block.1
  hi ← field (number_of most_placements) 32 lo.1
  side ← field side_of 32 hi.1
  cites ← cites_of side.1
  if nat_le lo.0 hi.0 then Some (Branch block.0 lo.0 hi.0 side.0 cites) else None

-- the energy record whose fields after the first word are spelled so
unfoldable pub energy_of : List ℕ → Option Record
energy_of text = do
  from ← field (number_of 399) 32 text
  to ← field (number_of 399) 32 from.1
  side ← side_of to.1
  if nat_le from.0 to.0 then Some (Energy from.0 to.0 side) else None

-- the fit record whose field after the first word is spelled so
unfoldable pub fit_of : List ℕ → Option Record
fit_of text = side_of text >>= λ side. Some (Fit side)

-- the record with this first word and these fields
abbrev pub record_after : List ℕ → List ℕ → Option Record
record_after word rest =
    if bytes_eq word (codes "branch") then branch_of rest
    else if bytes_eq word (codes "fit") then fit_of rest
    else if bytes_eq word (codes "energy") then energy_of rest
    else None

-- by the first word
unfoldable pub record_of : List ℕ → Option Record
record_of line = cut 32 line >>= λ p. record_after p.0 p.1

-- nothing may follow the last line
abbrev pub closed : List (List ℕ) → Result (List Record) LogFault
closed ([] ∷ []) = Ok []
closed _ = Err Rest

-- a record before those of the later lines
abbrev pub before : Record → Result (List Record) LogFault → Result (List Record) LogFault
before r (Ok rs) = Ok (r ∷ rs)
before r (Err e) = Err e

-- the record of line n before those of the later lines, or that this line is none
abbrev pub line_then : Option Record → ℕ → Result (List Record) LogFault → Result (List Record) LogFault
line_then None n rest = Err (Line n)
line_then (Some r) n rest = before r rest

-- the records from line n on, up to the line `end`. Each piece but the last ends with its line feed.
unfoldable pub records_from : ℕ → List (List ℕ) → Result (List Record) LogFault
records_from n [] = Err NoEnd
records_from n (piece ∷ []) = Err NoEnd
records_from n (line ∷ next ∷ more) =
    if bytes_eq line (codes "end") then closed (next ∷ more) else line_then (record_of line) n (records_from (n + 1) (next ∷ more))

-- the records of a text whose first line is the head
abbrev pub headed : List (List ℕ) → Result (List Record) LogFault
headed (first ∷ next ∷ more) = if bytes_eq first (codes "log 1") then records_from 2 (next ∷ more) else Err Head
headed _ = Err Head

-- the pieces between the line feeds
abbrev pub lines : List ℕ → List (List ℕ)
lines bytes = slice_split (λ b. b == 10) bytes

-- the log that the bytes are read as, or their first fault
unfoldable pub log_of : List ℕ → Result (List Record) LogFault
log_of bytes = headed (lines bytes)

-- What a reader of one line answered, seen by view, is what the text is read as, unless memory ran out.
abbrev pub IsUnread : {Y : Type 0} → Unread → Option Y → Type 0
IsUnread unread.Form read = read ≡ None
IsUnread unread.Memory read = Unit {0}

-- the same for a reader's whole answer
abbrev pub Reads : {X Y : Type 0} → (X → Y) → Result X Unread → Option Y → Type 0
Reads view (Ok x) read = read ≡ Some (view x)
Reads view (Err e) read = IsUnread e read

-- What a call answered, seen by view, is what the text is read as, unless memory ran out.
abbrev pub Fails : {Y : Type 0} → LogFault → Result Y LogFault → Type 0
Fails Memory read = Unit {0}
Fails e read = read ≡ Err e

-- the same for the whole answer of a call
abbrev pub Gives : {X Y : Type 0} → (X → Y) → Result X LogFault → Result Y LogFault → Type 0
Gives view (Ok x) read = read ≡ Ok (view x)
Gives view (Err e) read = Fails e read

-- the line that tells a fault, and nothing for want of memory
abbrev pub fault_line : LogFault → List ℕ
fault_line Head = codes "refused log 1 Head\n"
fault_line (Line n) = codes "refused log 2 Line " ++ decimal n ++ 10 ∷ []
fault_line NoEnd = codes "refused log 3 NoEnd\n"
fault_line Rest = codes "refused log 4 Rest\n"
fault_line Memory = []
