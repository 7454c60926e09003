-- What a worker's log says.
use Rattle.std.proofs.Common.{◌≡◌, ℕ, zero, suc, ◌+◌, ◌≤◌, List, [], ◌∷◌, ◌++◌, length, Some, sym, ap, ◌∙◌, subst, inl, inr, arith, append_assoc, append-nil, length-append}
use Rattle.std.specs.Prelude.{slice_get}
use Rattle.std.specs.List.{All, Contains}
use Rattle.std.proofs.lemmas.Bool.{cases_lt}
use Rattle.std.proofs.lemmas.List.Elements.{All-nil, All-push, All-weaker}
use Rattle.std.proofs.lemmas.Option.{none-some}
use Rattle.common_lists.proofs.ListLaws.{get_before}
use Rattle.branch_core.specs.declared.report.Report.{Report}
use Rattle.branch_core.specs.Proper.{AreProper}
use Rattle.plan_rule.specs.Choices.{Choices}
use Rattle.refutation_log.specs.declared.record.Record.{Record}
use Rattle.refutation_log.specs.Logs.{CiteEarlier}
use Rattle.branch_kernel.proofs.GrowthLaws.{slice_get-less}
use Rattle.branch_workers.specs.Work.{HasRecord, IsGrownLog, IsLogged, IsProved}
use Rattle.log_merge.proofs.MergeLaws.{grown_shown}

-- what a log proves it proves once it has grown
pub grown_proved : (c : Choices) (old new more : List Record) (r : Report) → new ≡ old ++ more → IsProved c old r → IsProved c new r
grown_proved c old new more r is h = record {
  number = elim h.number [ inl none ↦ inl none | inr low ↦ inr (let n : length new ≡ length old + length more = ap length is ∙ length-append old more in omega arith) ];
  shown = λ p inside. grown_shown c old new more r.refutation r.job is (h.shown p inside);
  part = λ codes lo hi part. let (e, at, covers) = h.part codes lo hi part in (e, still e at, covers);
  empty = λ lacks. let (e, at, none) = h.empty lacks in (e, still e at, none);
}
  where
    still : (e : Record) → slice_get old r.refutation ≡ Some e → slice_get new r.refutation ≡ Some e
    still e at = subst (λ l. slice_get l r.refutation ≡ Some e) (sym is) (get_before old more r.refutation e at)

pub grown_record : (c : Choices) (old new : List Record) (seen seen' : List ℕ) (r : Report) → IsGrownLog c old new seen seen' → HasRecord c old seen r → HasRecord c new seen' r
grown_record c old new seen seen' r g h = record { proved = grown_proved c old new g.grown.0 r g.grown.1 h.proved; seen_is = g.kept r.seen h.seen_is }

-- a log that is proper, and has grown by proper records
proper_grown : (c : Choices) (from : ℕ) (old new : List Record) → from ≤ length old → (more : List Record) × (new ≡ old ++ more) → AreProper c from old → AreProper c (length old) new → AreProper c from new
proper_grown c from old new l (more, is) before after i r low at = elim (cases_lt i (length old)) [
  | inl below ↦ before i r low (slice_get-less old more i r below (subst (λ log. slice_get log i ≡ Some r) is at))
  | inr above ↦ after i r above at
]

pub grown_trans : (c : Choices) (a b d : List Record) (seen seen' seen'' : List ℕ) → IsGrownLog c a b seen seen' → IsGrownLog c b d seen' seen'' → IsGrownLog c a d seen seen''
grown_trans c a b d seen seen' seen'' g h = record {
  grown = (g.grown.0 ++ h.grown.0, h.grown.1 ∙ ap (λ l. l ++ h.grown.0) g.grown.1 ∙ append_assoc a g.grown.0 h.grown.0);
  kept = λ k i. h.kept k (g.kept k i);
  steps = λ t best s. h.steps t best (g.steps t best s);
  proper = proper_grown c (length a) b d (let n : length b ≡ length a + length g.grown.0 = ap length g.grown.1 ∙ length-append a g.grown.0 in omega arith) h.grown g.proper h.proper;
}

-- more was seen, and the log is as it was
pub grown_seen : (c : Choices) (log : List Record) (seen seen' : List ℕ) → ((k : ℕ) → Contains seen k → Contains seen' k) → IsGrownLog c log log seen seen'
grown_seen c log seen seen' kept = record {
  grown = ([], sym (append-nil log));
  kept = kept;
  steps = λ t best s. s;
  proper = λ i r low at. absurd (past log i r low at);
}
  where
    past : (l : List Record) (i : ℕ) (r : Record) → length l ≤ i → slice_get l i ≡ Some r → ⊥
    past [] i r low at = none-some r at
    past (x ∷ l) zero r low at = omega arith
    past (x ∷ l) (suc i) r low at = past l i r (omega arith) at

-- a report more, with its record
pub logged_on : (c : Choices) (old new : List Record) (seen seen' : List ℕ) (before after : List Report) (r : Report) → IsGrownLog c old new seen seen' → HasRecord c new seen' r
    → after ≡ before ++ r ∷ [] → IsLogged c old seen before → IsLogged c new seen' after
logged_on c old new seen seen' before after r on own is h = record {
  steps = λ t best. on.steps t best (h.steps t best);
  proper = proper_grown c 0 old new (omega arith) on.grown h.proper on.proper;
  proved = subst (All (IsProved c new)) (sym is)
      (All-push (IsProved c new) before r (All-weaker (IsProved c old) (IsProved c new) (λ r s. grown_proved c old new on.grown.0 r on.grown.1 s) before h.proved) own.proved);
  seen_is = subst (All (λ (r : Report). Contains seen' r.seen)) (sym is)
      (All-push (λ (r : Report). Contains seen' r.seen) before r (All-weaker (λ (r : Report). Contains seen r.seen) (λ (r : Report). Contains seen' r.seen) (λ r s. on.kept r.seen s) before h.seen_is) own.seen_is);
}

pub none_logged : (c : Choices) (log : List Record) (seen : List ℕ) (reports : List Report) → log ≡ [] → reports ≡ [] → IsLogged c log seen reports
none_logged c log seen reports no_log no_reports = record {
  steps = λ t best i l. absurd (let e = ap length no_log in omega arith);
  proper = λ i r low at. absurd (none-some r (subst (λ l. slice_get l i ≡ Some r) no_log at));
  proved = subst (All (IsProved c log)) (sym no_reports) (All-nil (IsProved c log));
  seen_is = subst (All (λ (r : Report). Contains seen r.seen)) (sym no_reports) (All-nil (λ (r : Report). Contains seen r.seen));
}

-- the records of a grown log cite earlier records alone
pub grown_cites : (c : Choices) (old new : List Record) (seen seen' : List ℕ) (before : List ℕ) (reports : List Report) → IsGrownLog c old new seen seen' → IsLogged c old before reports → CiteEarlier new
grown_cites c old new seen seen' before reports g h i r at = (proper_grown c 0 old new (omega arith) g.grown h.proper g.proper i r (omega arith) at).earlier
