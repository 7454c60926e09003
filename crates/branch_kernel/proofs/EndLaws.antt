-- What the last record of a search does, whose side need not have been asked.
use Rattle.std.proofs.Common.{◌≡◌, ℕ, ◌+◌, ◌/◌, ◌^◌, ◌<◌, ◌≤◌, List, [], ◌∷◌, ◌++◌, length, get_or, Option, Some, None, sym, ap, ◌∙◌, subst, inl, inr, arith, Bool, length-append, append_assoc}
use Rattle.std.specs.Prelude.{Result, Ok, Err, IfOk, slice_get}
use Rattle.std.specs.List.{All}
use Rattle.std.proofs.lemmas.Bool.{cases_lt}
use Rattle.std.proofs.lemmas.List.Elements.{All-weaker, All-nil, All-cons, All-append}
use Rattle.std.proofs.lemmas.Option.{slice_get_within}
use Rattle.shape_exact.specs.declared.memory.NoMemory.{NoMemory}
use Rattle.plan_rule.specs.declared.literal.Literal.{Literal}
use Rattle.plan_rule.specs.declared.job.Job.{Job}
use Rattle.plan_rule.specs.Choices.{Choices}
use Rattle.refutation_log.specs.declared.record.Record.{Record}
use Rattle.refutation_log.specs.declared.record.Record.TheVariants.{Branch}
use Rattle.refutation_log.specs.Steps.{IsStep}
use Rattle.nogood_store.specs.declared.nogood.Nogood.{Nogood}
use Rattle.nogood_store.specs.Hits.{PlainStore}
use Rattle.branch_kernel.specs.declared.steps.Shown.{Shown}
use Rattle.branch_kernel.specs.Rivals.{IsRival, IsGood, Settles}
use Rattle.branch_kernel.specs.States.{State, state, relied}
use Rattle.branch_kernel.specs.Boxes.{node_box, kept}
use Rattle.branch_kernel.specs.Nodes.{IsPlace}
use Rattle.branch_kernel.specs.Clean.{IsClean, StoreSettles, StoreIsClean}
use Rattle.branch_kernel.specs.Stored.{IsKept, IsStored, IsTagged, IsFresh}
use Rattle.branch_kernel.specs.Shows.{AreCited, IsHandledBy, IsShown, IsAnswered}
use Rattle.branch_kernel.specs.Growth.{Grows, Ends, IsReady, Runs}
use Rattle.branch_kernel.specs.Written.{IsClosed}
use Rattle.branch_kernel.proofs.RivalLaws.{later_self, later_trans}
use Rattle.branch_kernel.proofs.GrowthLaws.{slice_get-less, good_later, good_push, fresh_more, fresh_older, asked_more, clean_later}
use Rattle.branch_kernel.proofs.NodeLaws.{branch_done, ready_later, shown_of}
use Rattle.branch_kernel.proofs.DropLaws.{kept_place, kept_node_covers}

pub ends_from : (c : Choices) (s s' : State) → Grows c s s' → Ends c s s'
ends_from c s s' g = record {
  later = g.later;
  more = g.more;
  good = g.good;
  asked = λ i r l m at. g.asked i r l at;
  stored = g.stored;
  settles = g.settles;
  clean = g.clean;
}

-- a last record is pushed that every rival finds a step
pub ends_add : (c : Choices) (s : State) (bar : ℕ) (best : Option (List ℕ)) (log : List Record) (store : List Nogood) (r : Record) → s.bar < 2 ^ 64
    → IsStored c log store → Grows c s (record { bar = bar; best = best; log = log; store = store })
    → ((t : Option (List ℕ)) → IsRival c bar best t → IsStep c t log r)
    → Ends c s (record { bar = bar; best = best; log = log ++ r ∷ []; store = store })
ends_add c s bar best log store r fits tagged g steps =
    let (added, e) = g.more in
    let (boxes, f, fresh) = g.stored in
    let n = length-append log (r ∷ []) in
    let d = g.later.falls in
    record {
      later = g.later;
      more = (added ++ r ∷ [], ap (λ log. log ++ r ∷ []) e ∙ append_assoc s.log added (r ∷ []));
      good = λ i l m. elim (cases_lt i (length log)) [
        | inl old ↦ good_later c bar bar best best log (r ∷ []) i (omega arith) (later_self c bar best) (g.good i l old)
        | inr new ↦ let f : length log ≡ i = omega arith in subst (IsGood c bar best (log ++ r ∷ [])) f (good_push c bar best log r steps)
      ];
      asked = λ i r' l m at. g.asked i r' l (slice_get-less log (r ∷ []) i r' (omega arith) at);
      stored = (boxes, f, All-weaker (IsFresh c (length s.log) log) (IsFresh c (length s.log) (log ++ r ∷ [])) (fresh_more c (length s.log) log (r ∷ [])) boxes fresh);
      settles = g.settles;
      clean = λ h k x l. let t : IsTagged c log (get_or store k x) = tagged k x l in
          clean_later c bar bar log (r ∷ []) (get_or store k x).tag (omega arith) (omega arith) (slice_get_within log (get_or store k x).tag t.record_is t.at) (g.clean h k x l);
    }

-- a box is stored that a new record refutes
ends_store : (c : Choices) (s : State) (bar : ℕ) (best : Option (List ℕ)) (log : List Record) (store : List Nogood) (e : Nogood)
    → Ends c s (record { bar = bar; best = best; log = log; store = store }) → IsFresh c (length s.log) log e
    → (StoreSettles c s → Settles c bar None e.part) → (StoreIsClean c s → IsClean c bar log e.tag)
    → Ends c s (record { bar = bar; best = best; log = log; store = store ++ e ∷ [] })
ends_store c s bar best log store e g fresh settles clean =
    let (boxes, f, all) = g.stored in
    record {
      later = g.later;
      more = g.more;
      good = g.good;
      asked = g.asked;
      stored = (
        boxes ++ e ∷ [],
        ap (λ store. store ++ e ∷ []) f ∙ append_assoc s.store boxes (e ∷ []),
        All-append (IsFresh c (length s.log) log) boxes (e ∷ []) all (All-cons (IsFresh c (length s.log) log) e [] fresh (All-nil (IsFresh c (length s.log) log))),
      );
      settles = λ h. All-append (λ e. Settles c bar None e.part) store (e ∷ []) (g.settles h)
          (All-cons (λ e. Settles c bar None e.part) e [] (settles h) (All-nil (λ e. Settles c bar None e.part)));
      clean = λ h. All-append (λ e. IsClean c bar log e.tag) store (e ∷ []) (g.clean h)
          (All-cons (λ e. IsClean c bar log e.tag) e [] (clean h) (All-nil (λ e. IsClean c bar log e.tag)));
    }

-- a box that may have been stored
ends_kept : (c : Choices) (s : State) (bar : ℕ) (best : Option (List ℕ)) (log : List Record) (store new : List Nogood) (tie : Bool) (number : ℕ) (box : List Literal)
    → Ends c s (record { bar = bar; best = best; log = log; store = store })
    → IsAnswered c s (record { bar = bar; best = best; log = log; store = store }) tie number box
    → IsFresh c (length s.log) log (record { part = box; tag = number }) → IsKept tie store new (record { part = box; tag = number })
    → Ends c s (record { bar = bar; best = best; log = log; store = new })
    × IsAnswered c s (record { bar = bar; best = best; log = log; store = new }) tie number box
ends_kept c s bar best log store new tie number box g answer fresh kept = (
  elim kept [
    | inl e ↦ subst (λ store. Ends c s (record { bar = bar; best = best; log = log; store = store })) (sym e) g
    | inr some ↦ subst (λ store. Ends c s (record { bar = bar; best = best; log = log; store = store })) (sym some.1)
        (ends_store c s bar best log store (record { part = box; tag = number }) g fresh
        (λ right. subst (λ tie. Settles c bar (relied tie best) box) some.0 (answer.settles right))
        (λ right. answer.clean right some.0))
  ],
  record { record_is = answer.record_is; at = answer.at; contains = answer.contains; settles = answer.settles; clean = answer.clean },
)

-- the last record of a search
pub closed_last : (c : Choices) (job : Job) (start : State) (bar : ℕ) (best : Option (List ℕ)) (log new : List Record) (store store' : PlainStore) (tie : Bool)
    (side : List Literal) (needs : ℕ → Bool) (items : List ℕ) (range : Literal) (last : ℕ) (result : Result Shown NoMemory)
    → IsReady c job start → Runs c job start (state bar best log store) → IsPlace c side range.block range.lo range.hi
    → ((x : ℕ) → range.lo ≤ x → x < last → IsHandledBy c start (state bar best log store) tie side needs items range.block x) → range.hi ≤ last
    → AreCited c start (state bar best log store) tie items
    → IsClosed c tie side range needs items log new store store' result
    → Ends c start (state bar best new store')
    × IfOk result (λ shown. (length new ≡ length log + 1) × (shown.number + 1 ≡ length new)
    × IsShown c start (state bar best new store') shown.tie shown.number (node_box c side range.block range.lo range.hi))
closed_last c job start bar best log new store store' tie side needs items range last (Ok shown) ready runs place handled end cited (tie_is, (list, at, grown, same), kept_is, prefix) =
    let later = ready_later c job start (state bar best log store) ready runs in
    let (steps, number, answer, fresh) = branch_done c start bar best log new store.nogoods tie shown.number (kept needs side) list items range.block range.lo range.hi last ready.fits
    (kept_place c needs side range.block range.lo range.hi place) runs.grows (λ x l h. handled x l h needs (λ y t. t)) end cited same (at, grown) in
    let ends = subst (λ log. Ends c start (record { bar = bar; best = best; log = log; store = store.nogoods })) (sym grown)
    (ends_add c start bar best log store.nogoods (Branch range.block range.lo range.hi (kept needs side) list) ready.fits later.stored runs.grows steps) in
    let (ends', answer') = ends_kept c start bar best new store.nogoods store'.nogoods tie shown.number (node_box c (kept needs side) range.block range.lo range.hi) ends answer fresh kept_is in (
      ends',
      (
        (let n = length-append log (Branch range.block range.lo range.hi (kept needs side) list ∷ []) in let m = ap length grown in omega arith),
        number,
        subst (λ tie. IsShown c start (state bar best new store') tie shown.number (node_box c side range.block range.lo range.hi)) (sym tie_is)
            (shown_of c start (state bar best new store') tie shown.number (node_box c (kept needs side) range.block range.lo range.hi) (node_box c side range.block range.lo range.hi)
            fresh.record_is fresh.at fresh.result fresh.part_is answer' (kept_node_covers c needs side range.block range.lo range.hi place.free)),
      ),
    )
closed_last c job start bar best log new store store' tie side needs items range last (Err e) ready runs place handled end cited (same_log, same_store) = (
  subst (λ log. Ends c start (state bar best log store')) (sym same_log) (subst (λ store. Ends c start (state bar best log store)) (sym same_store)
      (ends_from c start (state bar best log store) runs.grows)),
  tt,
)

-- a search ends after some growth
pub ends_onto : (c : Choices) (s1 s2 s3 : State) → s1.bar < 2 ^ 64 → Grows c s1 s2 → Ends c s2 s3 → Ends c s1 s3
ends_onto c s1 s2 s3 low h k =
    let (xs, e) = h.more in
    let (ys, f) = k.more in
    let (ps, store_e, ps_fresh) = h.stored in
    let (qs, store_f, qs_fresh) = k.stored in
    let n : length s2.log ≡ length s1.log + length xs = ap length e ∙ length-append s1.log xs in
    let d = h.later.falls in
    record {
      later = later_trans c s1.bar s2.bar s3.bar s1.best s2.best s3.best h.later k.later;
      more = (xs ++ ys, f ∙ ap (λ log. log ++ ys) e ∙ append_assoc s1.log xs ys);
      good = λ i l m. elim (cases_lt i (length s2.log)) [
        | inl old ↦ subst (λ log. IsGood c s3.bar s3.best log i) (sym f)
            (good_later c s2.bar s3.bar s2.best s3.best s2.log ys i (omega arith) k.later (h.good i l old))
        | inr new ↦ k.good i new m
      ];
      asked = λ i r l m at. elim (cases_lt i (length s2.log)) [
        | inl old ↦ h.asked i r l (slice_get-less s2.log ys i r old (subst (λ log. slice_get log i ≡ Some r) f at))
        | inr new ↦
            let e : s2.bar / 2 ^ 32 ≤ s1.bar / 2 ^ 32 = omega arith in
            asked_more c (s2.bar / 2 ^ 32) (s1.bar / 2 ^ 32) r e (k.asked i r new m at)
      ];
      stored = (
        ps ++ qs,
        store_f ∙ ap (λ store. store ++ qs) store_e ∙ append_assoc s1.store ps qs,
        All-append (IsFresh c (length s1.log) s3.log) ps qs
            (subst (λ log. All (IsFresh c (length s1.log) log) ps) (sym f)
            (All-weaker (IsFresh c (length s1.log) s2.log) (IsFresh c (length s1.log) (s2.log ++ ys)) (fresh_more c (length s1.log) s2.log ys) ps ps_fresh))
            (All-weaker (IsFresh c (length s2.log) s3.log) (IsFresh c (length s1.log) s3.log) (λ e. fresh_older c (length s2.log) (length s1.log) s3.log e (omega arith)) qs qs_fresh),
      );
      settles = λ x. k.settles (h.settles x);
      clean = λ x. k.clean (h.clean x);
    }
