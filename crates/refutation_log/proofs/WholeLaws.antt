-- What is read as a log is spelled so, and what is spelled so is read as that log.
use Rattle.std.proofs.Common.{◌≡◌, ℕ, ◌+◌, List, [], ◌∷◌, ◌++◌, Option, Some, None, Result, Ok, Err, refl, sym, ap, subst, ◌∙◌, inl, inr, append_assoc}
use Rattle.std.specs.Prelude.{codes, IfOk}
use Rattle.std.specs.Str.{bytes_eq}
use Rattle.std.specs.List.{flat_map, join_with_byte}
use Rattle.std.proofs.lemmas.Bool.{cases_Bool}
use Rattle.std.proofs.lemmas.Slice.Eq.{bytes_eq-Decides}
use Rattle.std.proofs.lemmas.List.Splits.{join_with_byte-slice_split}
use Rattle.refutation_log.specs.declared.record.Record.{Record}
use Rattle.refutation_log.specs.declared.log.Log.{Log}
use Rattle.refutation_log.specs.declared.fault.LogFault.{LogFault}
use Rattle.refutation_log.specs.declared.fault.LogFault.TheVariants.{Head}
use Rattle.text_parts.specs.Parts.{cut}
use Rattle.refutation_log.specs.Spelling.{record_text, line_text, log_text, HaveText}
use Rattle.refutation_log.specs.Reading.{before, line_then, closed, headed, record_of, records_from, lines, log_of, Gives}
use Rattle.text_parts.proofs.CutLaws.{cut-again}
use Rattle.refutation_log.proofs.LogLaws.{line_turn, head_turn}
use Rattle.refutation_log.proofs.RecordLaws.{record-takes, record-again, record_line, record_is_no_end}

abbrev done : List Record → Result (List Record) LogFault
done rs = Ok rs

done_is : (rs qs : List Record) → done rs ≡ done qs → rs ≡ qs
done_is rs qs e = cc

before_ok : (r : Record) (rest : Result (List Record) LogFault) (rs : List Record) → before r rest ≡ done rs → (qs : List Record) × (rest ≡ done qs) × (r ∷ qs ≡ rs)
before_ok r (Ok qs) rs e = (qs, refl, done_is (r ∷ qs) rs e)
before_ok r (Err f) rs e = absurd cc

then_ok : (o : Option Record) (n : ℕ) (rest : Result (List Record) LogFault) (rs : List Record) → line_then o n rest ≡ done rs
    → (r : Record) × (qs : List Record) × (o ≡ Some r) × (rest ≡ done qs) × (r ∷ qs ≡ rs)
then_ok None n rest rs e = absurd cc
then_ok (Some r) n rest rs e = let b = before_ok r rest rs e in (r, b.0, refl, b.1, b.2)

closed_ok : (ps : List (List ℕ)) (rs : List Record) → closed ps ≡ done rs → (ps ≡ [] ∷ []) × ([] ≡ rs)
closed_ok [] rs e = absurd cc
closed_ok ([] ∷ []) rs e = (refl, done_is [] rs e)
closed_ok ((b ∷ bs) ∷ ps) rs e = absurd cc
closed_ok ([] ∷ p ∷ ps) rs e = absurd cc

abbrev body : List Record → List ℕ
body rs = flat_map line_text rs ++ codes "end\n"

body_more : (r : Record) (rs : List Record) → body (r ∷ rs) ≡ record_text r ++ 10 ∷ body rs
body_more r rs = append_assoc (line_text r) (flat_map line_text rs) (codes "end\n") ∙ append_assoc (record_text r) (10 ∷ []) (body rs)

records-take : (n : ℕ) (ps : List (List ℕ)) (rs : List Record) → records_from n ps ≡ done rs → HaveText rs × (join_with_byte 10 ps ≡ body rs)
unfolding records_from
records-take n [] rs e = absurd cc
records-take n (p ∷ []) rs e = absurd cc
records-take n (line ∷ next ∷ more) rs e =
    elim (cases_Bool (bytes_eq line (codes "end"))) [
      | inl t ↦
          let (rest, none) = closed_ok (next ∷ more) rs (rw t at e) in
          let is = (bytes_eq-Decides line (codes "end")).0 t in
          subst (λ (qs : List Record). HaveText qs × (join_with_byte 10 (line ∷ next ∷ more) ≡ body qs)) none
          (tt, ap (λ (l : List ℕ). l ++ 10 ∷ join_with_byte 10 (next ∷ more)) is ∙ ap (λ (ps : List (List ℕ)). codes "end" ++ 10 ∷ join_with_byte 10 ps) rest)
      | inr f ↦
          let (r, qs, found, others, made) = then_ok (record_of line) n (records_from (n + 1) (next ∷ more)) rs (rw f at e) in
          let h = record-takes line r found in
          let k = records-take (n + 1) (next ∷ more) qs others in
          subst (λ (ss : List Record). HaveText ss × (join_with_byte 10 (line ∷ next ∷ more) ≡ body ss)) made
          ((h.1, k.0), ap (λ (l : List ℕ). l ++ 10 ∷ join_with_byte 10 (next ∷ more)) h.0 ∙ ap (λ (b : List ℕ). record_text r ++ 10 ∷ b) k.1 ∙ sym (body_more r qs))
    ]

records-again : (n : ℕ) (rs : List Record) → HaveText rs → records_from n (lines (body rs)) ≡ done rs
unfolding records_from
records-again n [] have = refl
records-again n (r ∷ rs) have =
    let cuts : cut 10 (body (r ∷ rs)) ≡ Some (record_text r, body rs) = ap (cut 10) (body_more r rs) ∙ cut-again 10 (record_text r) (body rs) (record_line r have.0) in
    line_turn n (body (r ∷ rs)) (record_text r) (body rs) cuts ∙ rw (record_is_no_end r, record-again r have.0, records-again (n + 1) rs have.1) refl

headed-takes : (ps : List (List ℕ)) (rs : List Record) → headed ps ≡ done rs → HaveText rs × (join_with_byte 10 ps ≡ codes "log 1\n" ++ body rs)
headed-takes [] rs e = absurd cc
headed-takes (p ∷ []) rs e = absurd cc
headed-takes (first ∷ next ∷ more) rs e =
    elim (cases_Bool (bytes_eq first (codes "log 1"))) [
      | inl t ↦
          let k = records-take 2 (next ∷ more) rs (rw t at e) in
          let is = (bytes_eq-Decides first (codes "log 1")).0 t in
          (k.0, ap (λ (l : List ℕ). l ++ 10 ∷ join_with_byte 10 (next ∷ more)) is ∙ ap (λ (b : List ℕ). codes "log 1\n" ++ b) k.1)
      | inr f ↦ let bad : Err Head ≡ done rs = rw f at e in absurd cc
    ]

pub log-takes : (bytes : List ℕ) (rs : List Record) → log_of bytes ≡ done rs → HaveText rs × (bytes ≡ log_text rs)
unfolding log_of log_text
log-takes bytes rs e =
    let h = headed-takes (lines bytes) rs e in
    (h.0, sym (join_with_byte-slice_split 10 bytes) ∙ h.1)

pub log-again : (rs : List Record) → HaveText rs → log_of (log_text rs) ≡ done rs
unfolding log_text
log-again rs have = head_turn (codes "log 1\n" ++ body rs) (codes "log 1") (body rs) refl ∙ records-again 2 rs have

pub is_found : (bytes : List ℕ) (r : Result Log LogFault) → Gives (λ log. log) r (log_of bytes) → IfOk r (λ log. HaveText log × (bytes ≡ log_text log))
is_found bytes (Ok log) given = log-takes bytes log given
is_found bytes (Err e) given = tt
