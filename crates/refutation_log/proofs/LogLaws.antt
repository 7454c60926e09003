-- Reading the lines of a log one after the other, as a loop does.
use Rattle.std.proofs.Common.{◌≡◌, ℕ, ◌+◌, ◌<◌, inl, inr, true, false, cond, eqb, List, [], ◌∷◌, ◌++◌, length, Some, None, Result, Ok, Err, refl, sym, ap, ◌∙◌, append_assoc, arith}
use Rattle.std.specs.Prelude.{codes}
use Rattle.std.specs.Str.{bytes_eq}
use Rattle.std.proofs.lemmas.Bool.{cases_Bool}
use Rattle.std.proofs.lemmas.List.{append-nil}
use Rattle.refutation_log.specs.declared.record.Record.{Record}
use Rattle.refutation_log.specs.declared.fault.LogFault.{LogFault}
use Rattle.refutation_log.specs.declared.fault.LogFault.TheVariants.{Head, Line, NoEnd, Rest}
use Rattle.text_parts.specs.Parts.{cut}
use Rattle.refutation_log.specs.Reading.{before, line_then, closed, record_of, records_from, lines, log_of}
use Rattle.text_parts.proofs.CutLaws.{some_piece, cut-takes, split-whole}

-- what was read before, and what is still read
abbrev pub with_records : List Record → Result (List Record) LogFault → Result (List Record) LogFault
with_records front (Ok rs) = Ok (front ++ rs)
with_records front (Err e) = Err e

regroup : (front : List Record) (r : Record) (read : Result (List Record) LogFault) → with_records front (before r read) ≡ with_records (front ++ r ∷ []) read
regroup front r (Ok rs) = ap (λ (xs : List Record). Ok xs) (simp append_assoc)
regroup front r (Err e) = refl

-- a line that ends with its line feed
pub line_turn : (n : ℕ) (rest line more : List ℕ) → cut 10 rest ≡ Some (line, more)
    → records_from n (lines rest) ≡ cond (bytes_eq line (codes "end")) (closed (lines more)) (line_then (record_of line) n (records_from (n + 1) (lines more)))
unfolding records_from
line_turn n rest line more e =
    let parts = cut-takes 10 rest (line, more) e in
    let (x, xs, some) = some_piece 10 more in
    rw (parts.split, some) refl

closed_empty : (more : List ℕ) → length more ≡ 0 → closed (lines more) ≡ Ok []
closed_empty [] e = refl
closed_empty (b ∷ bs) e = absurd (omega arith)

closed_after : (more : List ℕ) → 0 < length more → closed (lines more) ≡ Err Rest
closed_after [] some = absurd (omega arith)
closed_after (b ∷ bs) some =
    let (x, xs, e) = some_piece 10 bs in
    elim (cases_Bool (eqb b 10)) [
      | inl t ↦ rw (t, e) refl
      | inr t ↦ rw (t, e) refl
    ]

module _ (front : List Record) (n : ℕ) (rest line more : List ℕ) (total : Result (List Record) LogFault) (cuts : cut 10 rest ≡ Some (line, more))
    (so_far : with_records front (records_from n (lines rest)) ≡ total) where
  pub ends_whole : bytes_eq line (codes "end") ≡ true → length more ≡ 0 → total ≡ Ok front
  ends_whole t none =
      let one : with_records front (records_from n (lines rest)) ≡ Ok front = rw (line_turn n rest line more cuts, t, closed_empty more none) (ap (λ (xs : List Record). Ok xs) (append-nil front)) in
      sym so_far ∙ one

  pub ends_early : bytes_eq line (codes "end") ≡ true → 0 < length more → total ≡ Err Rest
  ends_early t some =
      let one : with_records front (records_from n (lines rest)) ≡ Err Rest = rw (line_turn n rest line more cuts, t, closed_after more some) refl in
      sym so_far ∙ one

  pub reads_no_record : bytes_eq line (codes "end") ≡ false → record_of line ≡ None → total ≡ Err (Line n)
  reads_no_record t none =
      let one : with_records front (records_from n (lines rest)) ≡ Err (Line n) = rw (line_turn n rest line more cuts, t, none) refl in
      sym so_far ∙ one

  pub reads_record : (r : Record) → bytes_eq line (codes "end") ≡ false → record_of line ≡ Some r → with_records (front ++ r ∷ []) (records_from (n + 1) (lines more)) ≡ total
  reads_record r t found =
      let one : with_records front (records_from n (lines rest)) ≡ with_records (front ++ r ∷ []) (records_from (n + 1) (lines more)) = rw (line_turn n rest line more cuts, t, found) (regroup front r (records_from (n + 1) (lines more))) in
      sym one ∙ so_far

pub runs_out : (front : List Record) (n : ℕ) (rest : List ℕ) (total : Result (List Record) LogFault) → cut 10 rest ≡ None
    → with_records front (records_from n (lines rest)) ≡ total → total ≡ Err NoEnd
unfolding records_from
runs_out front n rest total none so_far =
    let one : with_records front (records_from n (lines rest)) ≡ Err NoEnd = rw (split-whole 10 rest none) refl in
    sym so_far ∙ one

-- the first line
pub head_turn : (bytes first rest : List ℕ) → cut 10 bytes ≡ Some (first, rest) → log_of bytes ≡ cond (bytes_eq first (codes "log 1")) (records_from 2 (lines rest)) (Err Head)
unfolding log_of
head_turn bytes first rest e =
    let parts = cut-takes 10 bytes (first, rest) e in
    let (x, xs, some) = some_piece 10 rest in
    rw (parts.split, some) refl

pub no_head : (bytes : List ℕ) → cut 10 bytes ≡ None → log_of bytes ≡ Err Head
unfolding log_of
no_head bytes e = rw (split-whole 10 bytes e) refl
