-- Reading the lines of a text one after the other, as a loop does.
use Rattle.std.proofs.Common.{◌≡◌, ℕ, ◌+◌, ◌<◌, ◌≤◌, cond, eqb, List, [], ◌∷◌, ◌++◌, length, drop, Some, None, Result, Ok, Err, refl, sym, ap, ◌∙◌, inl, inr, append_assoc, arith}
use Rattle.std.specs.Prelude.{slice_get, codes}
use Rattle.std.specs.Str.{bytes_eq}
use Rattle.std.proofs.lemmas.Bool.{cases_Bool}
use Rattle.std.proofs.lemmas.List.{append-nil, drop_more, drop_all}
use Rattle.std.proofs.lemmas.Option.{slice_get_within, get_or_from_slice_get}
use Rattle.text_parts.specs.Parts.{cut}
use Rattle.text_parts.proofs.CutLaws.{cut-takes, split-whole, some_piece}
use Rattle.shape_exact.specs.Yards.{PlainYard}
use Rattle.shape_exact.specs.declared.block.Block.{Block}
use Rattle.plan_rule.specs.Plans.{total}
use Rattle.plan_rule.specs.Yards.{choices}
use Rattle.plan_text.specs.declared.fault.PlanFault.{PlanFault}
use Rattle.plan_text.specs.declared.fault.PlanFault.TheVariants as faults
use Rattle.plan_text.specs.Texts.{head}
use Rattle.plan_text.specs.Rows.{total_in}
use Rattle.plan_text.specs.Reading.{◌>>=◌, or_fault, is_right, line_code, rows_of, closed, total_of, planned, lines, plan_of, Fails}

-- codes, and the pieces after their lines
abbrev pub Rows : Type 0
Rows = List ℕ × List (List ℕ)

-- what was read before, and what is still read
abbrev pub with_front : List ℕ → Result Rows PlanFault → Result Rows PlanFault
with_front front (Ok x) = Ok (front ++ x.0, x.1)
with_front front (Err e) = Err e

regroup : (front : List ℕ) (code : ℕ) (read : Result Rows PlanFault) → with_front front (read >>= λ rest. Ok (code ∷ rest.0, rest.1)) ≡ with_front (front ++ code ∷ []) read
regroup front code (Ok x) = ap (λ (cs : List ℕ). Ok (cs, x.1)) (simp append_assoc)
regroup front code (Err e) = refl

-- a line that ends with its line feed, or that does not
pub row_turn : (yard : PlainYard) (b : Block) (bs : List Block) (n : ℕ) (rest line more : List ℕ) → cut 10 rest ≡ Some (line, more)
    → rows_of yard (b ∷ bs) n (lines rest) ≡ (line_code yard b n line >>= λ code. rows_of yard bs (n + 1) (lines more) >>= λ r. Ok (code ∷ r.0, r.1))
unfolding rows_of
row_turn yard b bs n rest line more e =
    let parts = cut-takes 10 rest (line, more) e in
    let (x, xs, some) = some_piece 10 more in
    rw (parts.split, some) refl

row_missing : (yard : PlainYard) (b : Block) (bs : List Block) (n : ℕ) (rest : List ℕ) → cut 10 rest ≡ None → rows_of yard (b ∷ bs) n (lines rest) ≡ Err (faults.Line n)
unfolding rows_of
row_missing yard b bs n rest e = rw (split-whole 10 rest e) refl

module _ (yard : PlainYard) (i : ℕ) (b : Block) (front rest : List ℕ) (all : Result Rows PlanFault) (here : slice_get yard.blocks i ≡ Some b)
    (so_far : with_front front (rows_of yard (drop i yard.blocks) (i + 2) (lines rest)) ≡ all) where
  split : with_front front (rows_of yard (b ∷ drop (i + 1) yard.blocks) (i + 2) (lines rest)) ≡ all
  split =
      let first = drop_more yard.blocks i b (slice_get_within yard.blocks i b here) in
      let is = get_or_from_slice_get yard.blocks i b b here in
      ap (λ (c : Block). with_front front (rows_of yard (c ∷ drop (i + 1) yard.blocks) (i + 2) (lines rest))) (sym is)
      ∙ ap (λ (bs : List Block). with_front front (rows_of yard bs (i + 2) (lines rest))) (sym first) ∙ so_far

  pub no_line : cut 10 rest ≡ None → all ≡ Err (faults.Line (i + 2))
  no_line e = sym split ∙ ap (with_front front) (row_missing yard b (drop (i + 1) yard.blocks) (i + 2) rest e)

  pub next_row : (line more : List ℕ) (code : ℕ) → cut 10 rest ≡ Some (line, more) → line_code yard b (i + 2) line ≡ Ok code
      → with_front (front ++ code ∷ []) (rows_of yard (drop (i + 1) yard.blocks) (i + 1 + 2) (lines more)) ≡ all
  next_row line more code cuts found =
      let one : with_front front (rows_of yard (b ∷ drop (i + 1) yard.blocks) (i + 2) (lines rest)) ≡ with_front (front ++ code ∷ []) (rows_of yard (drop (i + 1) yard.blocks) (i + 2 + 1) (lines more)) =
      rw (row_turn yard b (drop (i + 1) yard.blocks) (i + 2) rest line more cuts, found) (regroup front code (rows_of yard (drop (i + 1) yard.blocks) (i + 2 + 1) (lines more))) in
      let number : i + 1 + 2 ≡ i + 2 + 1 = omega arith in
      ap (λ n. with_front (front ++ code ∷ []) (rows_of yard (drop (i + 1) yard.blocks) n (lines more))) number ∙ sym one ∙ split

  pub row_fault : (line more : List ℕ) (e : PlanFault) → cut 10 rest ≡ Some (line, more) → line_code yard b (i + 2) line ≡ Err e → all ≡ Err e
  row_fault line more e cuts found =
      let one : with_front front (rows_of yard (b ∷ drop (i + 1) yard.blocks) (i + 2) (lines rest)) ≡ Err e = rw (row_turn yard b (drop (i + 1) yard.blocks) (i + 2) rest line more cuts, found) refl in
      sym split ∙ one

pub all_rows : (yard : PlainYard) (i n : ℕ) (front rest : List ℕ) (all : Result Rows PlanFault) → length yard.blocks ≤ i
    → with_front front (rows_of yard (drop i yard.blocks) n (lines rest)) ≡ all → all ≡ Ok (front, lines rest)
unfolding rows_of
all_rows yard i n front rest all le so_far =
    let one : with_front front (rows_of yard (drop i yard.blocks) n (lines rest)) ≡ Ok (front, lines rest) = rw (drop_all i yard.blocks le, append-nil front) refl in
    sym so_far ∙ one

-- ---- the last line

pub closed_empty : (more : List ℕ) → length more ≡ 0 → closed (lines more) ≡ Ok tt
closed_empty [] e = refl
closed_empty (b ∷ bs) e = absurd (omega arith)

pub closed_after : (more : List ℕ) → 0 < length more → closed (lines more) ≡ Err faults.Rest
closed_after [] some = absurd (omega arith)
closed_after (b ∷ bs) some =
    let (x, xs, e) = some_piece 10 bs in
    elim (cases_Bool (eqb b 10)) [
      | inl t ↦ rw (t, e) refl
      | inr t ↦ rw (t, e) refl
    ]

pub total_turn : (n is : ℕ) (rest line more : List ℕ) → cut 10 rest ≡ Some (line, more)
    → total_of n is (lines rest) ≡ (or_fault (total_in line) (faults.Line n) >>= λ told. is_right n told is >>= λ right. closed (lines more))
unfolding total_of
total_turn n is rest line more e =
    let parts = cut-takes 10 rest (line, more) e in
    let (x, xs, some) = some_piece 10 more in
    rw (parts.split, some) refl

pub total_missing : (n is : ℕ) (rest : List ℕ) → cut 10 rest ≡ None → total_of n is (lines rest) ≡ Err (faults.Line n)
unfolding total_of
total_missing n is rest e = rw (split-whole 10 rest e) refl

-- ---- the first line

pub head_turn : (yard : PlainYard) (bytes first rest : List ℕ) → cut 10 bytes ≡ Some (first, rest)
    → plan_of yard bytes ≡ cond (bytes_eq first (codes "no plan")) (closed (lines rest) >>= λ last. Ok None)
    (cond (bytes_eq first (head yard)) (planned yard (lines rest) >>= λ plan. Ok (Some plan)) (Err (faults.Line 1)))
unfolding plan_of
head_turn yard bytes first rest e =
    let parts = cut-takes 10 bytes (first, rest) e in
    let (x, xs, some) = some_piece 10 rest in
    rw (parts.split, some) refl

pub no_head : (yard : PlainYard) (bytes : List ℕ) → cut 10 bytes ≡ None → plan_of yard bytes ≡ Err (faults.Line 1)
unfolding plan_of
no_head yard bytes e = rw (split-whole 10 bytes e) refl

-- ---- faults

pub fails_so : {Y : Type 0} (e : PlanFault) (read : Result Y PlanFault) → read ≡ Err e → Fails e read
fails_so (faults.Line n) read h = h
fails_so (faults.Name n) read h = h
fails_so (faults.NotAPlacement n) read h = h
fails_so (faults.Figure n a b) read h = h
fails_so faults.Rest read h = h
fails_so faults.Memory read h = tt

-- what fails first fails all
pub fails_first : {X Y : Type 0} (e : PlanFault) (read : Result X PlanFault) (f : X → Result Y PlanFault) → Fails e read → Fails e (read >>= f)
fails_first {X} {Y} (faults.Line n) read f h = ap (λ (r : Result X PlanFault). r >>= f) h
fails_first {X} {Y} (faults.Name n) read f h = ap (λ (r : Result X PlanFault). r >>= f) h
fails_first {X} {Y} (faults.NotAPlacement n) read f h = ap (λ (r : Result X PlanFault). r >>= f) h
fails_first {X} {Y} (faults.Figure n a b) read f h = ap (λ (r : Result X PlanFault). r >>= f) h
fails_first {X} {Y} faults.Rest read f h = ap (λ (r : Result X PlanFault). r >>= f) h
fails_first {X} {Y} faults.Memory read f h = tt

-- ---- a plan after its head

pub planned_fails : (yard : PlainYard) (ps : List (List ℕ)) (e : PlanFault) → Fails e (rows_of yard yard.blocks 2 ps) → Fails e (planned yard ps)
unfolding planned
planned_fails yard ps e h =
    fails_first e (rows_of yard yard.blocks 2 ps) (λ rows. total_of (length yard.blocks + 2) (total (choices yard) rows.0) rows.1 >>= λ last. Ok rows.0) h

pub planned_turn : (yard : PlainYard) (ps : List (List ℕ)) (x : Rows) (n is : ℕ) → rows_of yard yard.blocks 2 ps ≡ Ok x → n ≡ length yard.blocks + 2
    → is ≡ total (choices yard) x.0 → planned yard ps ≡ (total_of n is x.1 >>= λ last. Ok x.0)
unfolding planned
planned_turn yard ps x n is e number sum =
    ap (λ (r : Result Rows PlanFault). r >>= λ rows. total_of (length yard.blocks + 2) (total (choices yard) rows.0) rows.1 >>= λ last. Ok rows.0) e
    ∙ ap (λ m. total_of m (total (choices yard) x.0) x.1 >>= λ last. Ok x.0) (sym number) ∙ ap (λ m. total_of n m x.1 >>= λ last. Ok x.0) (sym sum)
