-- What bytes are read as: a plan, none, or the first fault. Lines are counted from 1.
use Rattle.std.specs.Prelude.{◌≡◌, ℕ, ◌+◌, ◌-◌, Bool, ◌==◌, if◌then◌else◌, List, [], ◌∷◌, length, Option, Some, None, Result, Ok, Err, codes}
use Rattle.std.specs.List.{slice_split}
use Rattle.std.specs.Option.{option_map_or}
use Rattle.std.specs.Str.{bytes_eq}
use Rattle.shape_exact.specs.Yards.{PlainYard}
use Rattle.shape_exact.specs.declared.block.Block.{Block}
use Rattle.plan_rule.specs.Plans.{total}
use Rattle.plan_rule.specs.Yards.{choices}
use Rattle.plan_text.specs.declared.fault.PlanFault.{PlanFault}
use Rattle.plan_text.specs.declared.fault.PlanFault.TheVariants.{Line, Name, NotAPlacement, Figure, Rest, Memory}
use Rattle.plan_text.specs.Texts.{tells_early, head}
use Rattle.plan_text.specs.Rows.{Entry, row_of, total_in}
use Rattle.plan_text.specs.Told.{plate_named, told_at}

-- what is read after something, where that was not refused
infixl 10 ◌>>=◌
abbrev pub ◌>>=◌ : {A B : Type 0} → Result A PlanFault → (A → Result B PlanFault) → Result B PlanFault
(Ok x) >>= f = f x
(Err e) >>= f = Err e

-- what is there, or else the fault
abbrev pub or_fault : {A : Type 0} → Option A → PlanFault → Result A PlanFault
or_fault (Some x) e = Ok x
or_fault None e = Err e

-- what is read where the test holds, or else the fault
abbrev pub unless : {A : Type 0} → Bool → PlanFault → Result A PlanFault → Result A PlanFault
unless test e rest = if test then rest else Err e

-- the figures that a row tells, each beside what it is: the end, the tardiness and, where they are told, the early days
abbrev pub figures : Entry → ℕ → ℕ → List (ℕ × ℕ)
figures row due end =
    (row.end, end) ∷ (row.tardiness, end - due) ∷ option_map_or (λ told. (told, due - end) ∷ []) row.early []

-- line n tells a figure as it is
abbrev pub is_right : ℕ → ℕ → ℕ → Result (Unit {0}) PlanFault
is_right n told is = unless (told == is) (Figure n told is) (Ok tt)

-- line n tells each figure as it is, or else the fault of the first that it does not
abbrev pub are_right : ℕ → List (ℕ × ℕ) → Result (Unit {0}) PlanFault
are_right n [] = Ok tt
are_right n (f ∷ more) = is_right n f.0 f.1 >>= λ first. are_right n more

-- the code that line n tells of the block; in turn the line's form, the names, the placement and the figures
unfoldable pub line_code : PlainYard → Block → ℕ → List ℕ → Result ℕ PlanFault
line_code yard block n line = do
  row ← or_fault (row_of (tells_early yard) line) (Line n)
  plate ← unless (bytes_eq row.name block.name) (Name n) (or_fault (plate_named yard row.plate) (Name n))
  at ← or_fault (told_at yard block plate row) (NotAPlacement n)
  right ← are_right n (figures row block.due at.1)
  Ok at.0

-- a code for each block, from line n on, and the pieces after them. Each piece but the last ends with its line feed.
unfoldable pub rows_of : PlainYard → List Block → ℕ → List (List ℕ) → Result (List ℕ × List (List ℕ)) PlanFault
rows_of yard [] n pieces = Ok ([], pieces)
rows_of yard (b ∷ bs) n (line ∷ next ∷ more) =
    line_code yard b n line >>= λ code. rows_of yard bs (n + 1) (next ∷ more) >>= λ rest. Ok (code ∷ rest.0, rest.1)
rows_of yard (b ∷ bs) n _ = Err (Line n)

-- nothing follows the last line
abbrev pub closed : List (List ℕ) → Result (Unit {0}) PlanFault
closed ([] ∷ []) = Ok tt
closed _ = Err Rest

-- line n tells this total, and is the last
unfoldable pub total_of : ℕ → ℕ → List (List ℕ) → Result (Unit {0}) PlanFault
total_of n is (line ∷ next ∷ more) =
    or_fault (total_in line) (Line n) >>= λ told. is_right n told is >>= λ right. closed (next ∷ more)
total_of n is _ = Err (Line n)

-- the codes that the lines after the head tell
unfoldable pub planned : PlainYard → List (List ℕ) → Result (List ℕ) PlanFault
planned yard pieces = do
  rows ← rows_of yard yard.blocks 2 pieces
  last ← total_of (length yard.blocks + 2) (total (choices yard) rows.0) rows.1
  Ok rows.0

-- what is read by the first line: none, a plan where it is the head of the yard's plan texts, or neither
abbrev pub headed : PlainYard → List (List ℕ) → Result (Option (List ℕ)) PlanFault
headed yard (first ∷ next ∷ more) =
    if bytes_eq first (codes "no plan") then (closed (next ∷ more) >>= λ last. Ok None)
    else if bytes_eq first (head yard) then (planned yard (next ∷ more) >>= λ plan. Ok (Some plan))
    else Err (Line 1)
headed yard _ = Err (Line 1)

-- the pieces between the line feeds
abbrev pub lines : List ℕ → List (List ℕ)
lines bytes = slice_split (λ b. b == 10) bytes

-- the plan, or none, that the bytes are read as, or their first fault
unfoldable pub plan_of : PlainYard → List ℕ → Result (Option (List ℕ)) PlanFault
plan_of yard bytes = headed yard (lines bytes)

-- What a call refused is what is read, unless memory ran out.
abbrev pub Fails : {Y : Type 0} → PlanFault → Result Y PlanFault → Type 0
Fails Memory read = Unit {0}
Fails e read = read ≡ Err e

-- What a call answered, seen by view, is what is read, unless memory ran out.
abbrev pub Gives : {X Y : Type 0} → (X → Y) → Result X PlanFault → Result Y PlanFault → Type 0
Gives view (Ok x) read = read ≡ Ok (view x)
Gives view (Err e) read = Fails e read
