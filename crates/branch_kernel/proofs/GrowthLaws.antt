-- How the steps of a search make its state grow, and when a code of a branch is handled.
use Rattle.std.proofs.Common.{◌≡◌, ◌≢◌, ℕ, zero, suc, ◌+◌, ◌/◌, ◌^◌, ◌<◌, ◌≤◌, List, [], ◌∷◌, ◌++◌, length, get_or, Option, Some, None, refl, sym, ap, ◌∙◌, subst, inl, inr, arith, Bool, true, false, length-append, append_assoc}
use Rattle.std.specs.Prelude.{◌==◌, ◌&&◌, slice_get}
use Rattle.std.specs.List.{All, Contains}
use Rattle.std.proofs.lemmas.Bool.{cases_lt, eqb-true, and_parts, true≢false, false≢true}
use Rattle.std.proofs.lemmas.List.{append-nil, take_at}
use Rattle.std.proofs.lemmas.List.Elements.{All-weaker, All-append, All-contains, All-nil, All-cons}
use Rattle.std.proofs.lemmas.Option.{same_Some, slice_get_within}
use Rattle.common_lists.proofs.ListLaws.{get_before, get_last}
use Rattle.plan_rule.specs.declared.literal.Literal.{Literal}
use Rattle.plan_rule.specs.Choices.{Choices, MeetsSome, blocks, count}
use Rattle.plan_rule.specs.Plans.{code_of}
use Rattle.plan_rule.specs.Boxes.{IsBox, Holds, LeavesFree, HasExact, Covers, exact, with_literal}
use Rattle.plan_rule.specs.Bounds.{IsBase, IsFit, IsEnergy, IsAtMost}
use Rattle.plan_rule.proofs.BoundLaws.{exact-all, base-at_most, fit-at_most, held_code, held_block}
use Rattle.plan_rule.specs.Laws.{IsSound}
use Rattle.plan_rule.proofs.BoxLaws.{held_with, held_covered}
use Rattle.refutation_log.specs.declared.record.Record.{Record}
use Rattle.refutation_log.specs.declared.record.Record.TheVariants.{Branch, Fit, Energy}
use Rattle.refutation_log.specs.Steps.{result_of, IsCited, IsCovered, IsRange, IsStep}
use Rattle.refutation_log.specs.Logs.{cites_of}
use Rattle.refutation_log.proofs.AppendedLaws.{earlier_step}
use Rattle.refutation_log.proofs.AcceptedLaws.{either_held}
use Rattle.nogood_store.specs.declared.nogood.Nogood.{Nogood}
use Rattle.branch_kernel.specs.Rivals.{IsRival, Settles, IsGood, IsLater, Beats}
use Rattle.branch_kernel.specs.States.{State, relied}
use Rattle.branch_kernel.specs.Clean.{Leads, IsClean, StoreSettles, StoreIsClean}
use Rattle.branch_kernel.specs.Stored.{IsTagged, IsStored, IsFresh, IsBoxHit}
use Rattle.branch_kernel.specs.Unbeaten.{IsAsked}
use Rattle.branch_kernel.specs.Shows.{IsAnswered, IsHandled, AreCited}
use Rattle.branch_kernel.specs.Growth.{Grows, Ends}
use Rattle.branch_kernel.proofs.RivalLaws.{rival_later, settled_later, later_trans, later_self, later_none}
use Rattle.branch_kernel.proofs.CoverLaws.{covers_self, covers_trans, exist-box}

-- what stands in a grown list before the old end stands in the old list
pub slice_get-less : {X : Type 0} (xs ys : List X) (i : ℕ) (x : X) → i < length xs → slice_get (xs ++ ys) i ≡ Some x → slice_get xs i ≡ Some x
slice_get-less [] ys i x l e = absurd (omega arith)
slice_get-less (y ∷ xs) ys zero x l e = e
slice_get-less (y ∷ xs) ys (suc i) x l e = slice_get-less xs ys i x (omega arith) e

-- a good record stays good
pub good_later : (c : Choices) (bar bar' : ℕ) (best best' : Option (List ℕ)) (log more : List Record) (i : ℕ) → bar < 2 ^ 64
    → IsLater c bar best bar' best' → IsGood c bar best log i → IsGood c bar' best' (log ++ more) i
good_later c bar bar' best best' log more i b h good t rival = earlier_step c t log more i (good t (rival_later c bar bar' best best' t b h rival))

-- the record that is pushed
pub good_push : (c : Choices) (bar : ℕ) (best : Option (List ℕ)) (log : List Record) (r : Record)
    → ((t : Option (List ℕ)) → IsRival c bar best t → IsStep c t log r) → IsGood c bar best (log ++ r ∷ []) (length log)
good_push c bar best log r steps t rival =
    (r, get_last log r, subst (λ front. IsStep c t front r) (sym (take_at log (r ∷ []) (length log) refl)) (steps t rival))

-- what rests on the best, or on no best, is later as the best is
pub later_relied : (c : Choices) (tie : Bool) (bar bar' : ℕ) (best best' : Option (List ℕ)) → IsLater c bar best bar' best' → IsLater c bar (relied tie best) bar' (relied tie best')
later_relied c true bar bar' best best' h = h
later_relied c false bar bar' best best' h = record { falls = h.falls; no_worse = tt }

pub later_raise : (c : Choices) (tie tie' : Bool) (bar : ℕ) (best : Option (List ℕ)) → (tie ≡ true → tie' ≡ true) → IsLater c bar (relied tie best) bar (relied tie' best)
later_raise c true true bar best h = later_self c bar best
later_raise c true false bar best h = absurd (false≢true (h refl))
later_raise c false tie' bar best h = later_none c bar (relied tie' best)

-- citations of a grown log lead where they led
leads_less : (log more : List Record) (n k i : ℕ) → k < length log → Leads (log ++ more) n k i → Leads log n k i
leads_less log more zero k i l e = e
leads_less log more (suc n) k i l (r, j, at, cited, below, rest) =
    (r, j, slice_get-less log more k r l at, cited, below, leads_less log more n j i (omega arith) rest)

-- a clean record stays clean
pub clean_later : (c : Choices) (bar bar' : ℕ) (log more : List Record) (k : ℕ) → bar < 2 ^ 64 → bar' ≤ bar → k < length log → IsClean c bar log k → IsClean c bar' (log ++ more) k
clean_later c bar bar' log more k b falls l clean n i leads =
    good_later c bar bar' None None log more i b (record { falls = falls; no_worse = tt }) (clean n i (leads_less log more n k i l leads))

pub clean_falls : (c : Choices) (bar bar' : ℕ) (log : List Record) (k : ℕ) → bar < 2 ^ 64 → bar' ≤ bar → IsClean c bar log k → IsClean c bar' log k
clean_falls c bar bar' log k b falls clean n i leads t rival = clean n i leads t (rival_later c bar bar' None None t b (record { falls = falls; no_worse = tt }) rival)

-- a record that is pushed is clean, where it is good without a best and cites clean records
pub clean_push : (c : Choices) (bar : ℕ) (log : List Record) (r : Record) → bar < 2 ^ 64 → ((t : Option (List ℕ)) → IsRival c bar None t → IsStep c t log r)
    → All (λ k. k < length log) (cites_of r) → All (IsClean c bar log) (cites_of r) → IsClean c bar (log ++ r ∷ []) (length log)
clean_push c bar log r b steps earlier clean zero i e = subst (IsGood c bar None (log ++ r ∷ [])) e (good_push c bar None log r steps)
clean_push c bar log r b steps earlier clean (suc n) i (r', j, at, cited, below, rest) =
    let same : r' ≡ r = same_Some r' r (sym at ∙ get_last log r) in
    let inside : Contains (cites_of r) j = subst (λ r. Contains (cites_of r) j) same cited in
    let l : j < length log = All-contains (λ k. k < length log) (cites_of r) j earlier inside in
    clean_later c bar bar log (r ∷ []) j b (omega arith) l (All-contains (IsClean c bar log) (cites_of r) j clean inside) n i rest

pub grows_self : (c : Choices) (s : State) → Grows c s s
grows_self c s = record {
  later = later_self c s.bar s.best;
  more = ([], sym (append-nil s.log));
  good = λ i l m. absurd (omega arith);
  asked = λ i r l at. let m = slice_get_within s.log i r at in absurd (omega arith);
  stored = ([], sym (append-nil s.store), All-nil (IsFresh c (length s.log) s.log));
  settles = λ h. h;
  clean = λ h. h;
}

pub asked_more : (c : Choices) (m n : ℕ) (r : Record) → m ≤ n → IsAsked c m r → IsAsked c n r
asked_more c m n (Branch b lo hi side cites) l h = λ r fit. higher r (h r fit)
  where
    higher : (r : Option ℕ) → IsAtMost r m → IsAtMost r n
    higher None k = k
    higher (Some r) k = omega arith
asked_more c m n (Fit side) l h = tt
asked_more c m n (Energy from to side) l h = tt

pub fresh_more : (c : Choices) (old : ℕ) (log more : List Record) (e : Nogood) → IsFresh c old log e → IsFresh c old (log ++ more) e
fresh_more c old log more e f = record {
  record_is = f.record_is;
  new = f.new;
  at = get_before log more e.tag f.record_is f.at;
  result = f.result;
  part_is = f.part_is;
}

pub fresh_older : (c : Choices) (old older : ℕ) (log : List Record) (e : Nogood) → older ≤ old → IsFresh c old log e → IsFresh c older log e
fresh_older c old older log e l f = record {
  record_is = f.record_is;
  new = (let n = f.new in omega arith);
  at = f.at;
  result = f.result;
  part_is = f.part_is;
}

pub grows_trans : (c : Choices) (s1 s2 s3 : State) → s2.bar < 2 ^ 64 → Grows c s1 s2 → Grows c s2 s3 → Grows c s1 s3
grows_trans c s1 s2 s3 b h k =
    let (xs, e) = h.more in
    let (ys, f) = k.more in
    let (ps, store_e, ps_fresh) = h.stored in
    let (qs, store_f, qs_fresh) = k.stored in
    let n : length s2.log ≡ length s1.log + length xs = ap length e ∙ length-append s1.log xs in
    record {
      later = later_trans c s1.bar s2.bar s3.bar s1.best s2.best s3.best h.later k.later;
      more = (xs ++ ys, f ∙ ap (λ log. log ++ ys) e ∙ append_assoc s1.log xs ys);
      good = λ i l m. elim (cases_lt i (length s2.log)) [
        | inl old ↦ subst (λ log. IsGood c s3.bar s3.best log i) (sym f)
            (good_later c s2.bar s3.bar s2.best s3.best s2.log ys i b k.later (h.good i l old))
        | inr new ↦ k.good i new m
      ];
      asked = λ i r l at. elim (cases_lt i (length s2.log)) [
        | inl old ↦ h.asked i r l (slice_get-less s2.log ys i r old (subst (λ log. slice_get log i ≡ Some r) f at))
        | inr new ↦
            let d = h.later.falls in
            let e : s2.bar / 2 ^ 32 ≤ s1.bar / 2 ^ 32 = omega arith in
            asked_more c (s2.bar / 2 ^ 32) (s1.bar / 2 ^ 32) r e (k.asked i r new at)
      ];
      stored = (
        ps ++ qs,
        store_f ∙ ap (λ store. store ++ qs) store_e ∙ append_assoc s1.store ps qs,
        All-append (IsFresh c (length s1.log) s3.log) ps qs
            (subst (λ log. All (IsFresh c (length s1.log) log) ps) (sym f)
            (All-weaker (IsFresh c (length s1.log) s2.log) (IsFresh c (length s1.log) (s2.log ++ ys)) (fresh_more c (length s1.log) s2.log ys) ps ps_fresh))
            (All-weaker (IsFresh c (length s2.log) s3.log) (IsFresh c (length s1.log) s3.log) (λ e. fresh_older c (length s2.log) (length s1.log) s3.log e (omega arith)) qs qs_fresh),
      );
      settles = λ x. k.settles (h.settles x);
      clean = λ x. k.clean (h.clean x);
    }

-- growth on growth
pub grows_onto : (c : Choices) (s1 s2 s3 : State) → s1.bar < 2 ^ 64 → Grows c s1 s2 → Grows c s2 s3 → Grows c s1 s3
grows_onto c s1 s2 s3 fits g h = let d = g.later.falls in grows_trans c s1 s2 s3 (omega arith) g h

pub settles_falls : (c : Choices) (bar bar' : ℕ) (box : List Literal) → bar' ≤ bar → Settles c bar None box → Settles c bar' None box
settles_falls c bar bar' box falls h q feasible held = settled_later c bar bar' None None q (record { falls = falls; no_worse = tt }) (h q feasible held)

-- the bar falls and the best improves
pub grows_later : (c : Choices) (bar bar' : ℕ) (best best' : Option (List ℕ)) (log : List Record) (store : List Nogood) → bar < 2 ^ 64 → IsLater c bar best bar' best'
    → Grows c (record { bar = bar; best = best; log = log; store = store }) (record { bar = bar'; best = best'; log = log; store = store })
grows_later c bar bar' best best' log store fits h = record {
  later = h;
  more = ([], sym (append-nil log));
  good = λ i l m. absurd (omega arith);
  asked = λ i r l at. let m = slice_get_within log i r at in absurd (omega arith);
  stored = ([], sym (append-nil store), All-nil (IsFresh c (length log) log));
  settles = λ x. All-weaker (λ e. Settles c bar None e.part) (λ e. Settles c bar' None e.part) (λ e. settles_falls c bar bar' e.part h.falls) store x;
  clean = λ x. All-weaker (λ e. IsClean c bar log e.tag) (λ e. IsClean c bar' log e.tag) (λ e. clean_falls c bar bar' log e.tag fits h.falls) store x;
}

-- the bar alone falls
pub grows_falls : (c : Choices) (bar bar' : ℕ) (best : Option (List ℕ)) (log : List Record) (store : List Nogood) → bar < 2 ^ 64 → bar' ≤ bar
    → Grows c (record { bar = bar; best = best; log = log; store = store }) (record { bar = bar'; best = best; log = log; store = store })
grows_falls c bar bar' best log store fits l =
    grows_later c bar bar' best best log store fits (let e = later_self c bar best in record { falls = l; no_worse = e.no_worse })

-- the tags stay numbers of records
pub tagged_more : (c : Choices) (log more : List Record) (e : Nogood) → IsTagged c log e → IsTagged c (log ++ more) e
tagged_more c log more e t = record {
  record_is = t.record_is;
  at = get_before log more e.tag t.record_is t.at;
  contains = t.contains;
  result_is = t.result_is;
  part_is = t.part_is;
}

pub fresh_tagged : (c : Choices) (old : ℕ) (log : List Record) (e : Nogood) → IsFresh c old log e → IsTagged c log e
fresh_tagged c old log e f = record {
  record_is = f.record_is;
  at = f.at;
  contains = subst (λ box. Covers c (result_of c f.record_is) box) f.result (covers_self c (result_of c f.record_is));
  result_is = subst (IsBox c) (sym f.result) f.part_is;
  part_is = f.part_is;
}

-- boxes that were stored, with those that were added, are stored boxes of the grown log
stored_more : (c : Choices) (old new : List Record) (store store' : List Nogood) → (added : List Record) × (new ≡ old ++ added)
    → (boxes : List Nogood) × (store' ≡ store ++ boxes) × All (IsFresh c (length old) new) boxes → IsStored c old store → IsStored c new store'
stored_more c old new store store' (added, e) (boxes, f, fresh) h =
    subst (IsStored c new) (sym f) (All-append (IsTagged c new) store boxes
    (subst (λ log. IsStored c log store) (sym e) (All-weaker (IsTagged c old) (IsTagged c (old ++ added)) (tagged_more c old added) store h))
    (All-weaker (IsFresh c (length old) new) (IsTagged c new) (fresh_tagged c (length old) new) boxes fresh))

pub stored_later : (c : Choices) (s s' : State) → Grows c s s' → IsStored c s.log s.store → IsStored c s'.log s'.store
stored_later c s s' g = stored_more c s.log s'.log s.store s'.store g.more g.stored

pub stored_ends : (c : Choices) (s s' : State) → Ends c s s' → IsStored c s.log s.store → IsStored c s'.log s'.store
stored_ends c s s' ends = stored_more c s.log s'.log s.store s'.store ends.more ends.stored

-- a record is pushed that every rival finds a step
pub grows_add : (c : Choices) (s : State) (bar : ℕ) (best : Option (List ℕ)) (log : List Record) (store : List Nogood) (r : Record) → s.bar < 2 ^ 64
    → IsStored c log store → Grows c s (record { bar = bar; best = best; log = log; store = store })
    → ((t : Option (List ℕ)) → IsRival c bar best t → IsStep c t log r) → IsAsked c (s.bar / 2 ^ 32) r
    → Grows c s (record { bar = bar; best = best; log = log ++ r ∷ []; store = store })
grows_add c s bar best log store r fits tagged g steps asked =
    let (added, e) = g.more in
    let (boxes, f, fresh) = g.stored in
    let n = length-append log (r ∷ []) in
    let d = g.later.falls in
    record {
      later = g.later;
      more = (added ++ r ∷ [], ap (λ log. log ++ r ∷ []) e ∙ append_assoc s.log added (r ∷ []));
      good = λ i l m. elim (cases_lt i (length log)) [
        | inl old ↦ good_later c bar bar best best log (r ∷ []) i (omega arith) (later_self c bar best) (g.good i l old)
        | inr new ↦ let f : length log ≡ i = omega arith in subst (IsGood c bar best (log ++ r ∷ [])) f (good_push c bar best log r steps)
      ];
      asked = λ i r' l at. elim (cases_lt i (length log)) [
        | inl old ↦ g.asked i r' l (slice_get-less log (r ∷ []) i r' old at)
        | inr new ↦
            let m = slice_get_within (log ++ r ∷ []) i r' at in
            let f : i ≡ length log = omega arith in
            subst (IsAsked c (s.bar / 2 ^ 32)) (same_Some r r' (sym (get_last log r) ∙ subst (λ i. slice_get (log ++ r ∷ []) i ≡ Some r') f at)) asked
      ];
      stored = (boxes, f, All-weaker (IsFresh c (length s.log) log) (IsFresh c (length s.log) (log ++ r ∷ [])) (fresh_more c (length s.log) log (r ∷ [])) boxes fresh);
      settles = g.settles;
      clean = λ h k x l. let t : IsTagged c log (get_or store k x) = tagged k x l in
          clean_later c bar bar log (r ∷ []) (get_or store k x).tag (omega arith) (omega arith) (slice_get_within log (get_or store k x).tag t.record_is t.at) (g.clean h k x l);
    }

-- a box is stored that a new record refutes
pub grows_store : (c : Choices) (s : State) (bar : ℕ) (best : Option (List ℕ)) (log : List Record) (store : List Nogood) (e : Nogood)
    → Grows c s (record { bar = bar; best = best; log = log; store = store }) → IsFresh c (length s.log) log e
    → (StoreSettles c s → Settles c bar None e.part) → (StoreIsClean c s → IsClean c bar log e.tag)
    → Grows c s (record { bar = bar; best = best; log = log; store = store ++ e ∷ [] })
grows_store c s bar best log store e g fresh settles clean =
    let (boxes, f, all) = g.stored in
    record {
      later = g.later;
      more = g.more;
      good = g.good;
      asked = g.asked;
      stored = (
        boxes ++ e ∷ [],
        ap (λ store. store ++ e ∷ []) f ∙ append_assoc s.store boxes (e ∷ []),
        All-append (IsFresh c (length s.log) log) boxes (e ∷ []) all (All-cons (IsFresh c (length s.log) log) e [] fresh (All-nil (IsFresh c (length s.log) log))),
      );
      settles = λ h. All-append (λ e. Settles c bar None e.part) store (e ∷ []) (g.settles h)
          (All-cons (λ e. Settles c bar None e.part) e [] (settles h) (All-nil (λ e. Settles c bar None e.part)));
      clean = λ h. All-append (λ e. IsClean c bar log e.tag) store (e ∷ []) (g.clean h)
          (All-cons (λ e. IsClean c bar log e.tag) e [] (clean h) (All-nil (λ e. IsClean c bar log e.tag)));
    }

-- a code that clashes with a code of the side
pub handled_clash : (c : Choices) (start s : State) (tie : Bool) (side : List Literal) (cites : List ℕ) (b code a d : ℕ) → IsBox c side → LeavesFree side b → b < blocks c
    → HasExact side a d → c.Clash a d b code → IsHandled c start s tie side cites b code
handled_clash c start s tie side cites b code a d box free exists exacts clash = record {
  covered = λ t rival. inl (a, d, exacts, clash);
  settles = λ _ q feasible held is.
      absurd (feasible.clear a b (held_block c side a d box exacts) exists (exact-all (λ l. l.block ≢ b) side a d free exacts)
      (subst (λ x. c.Clash a (code_of q a) b x) (sym is) (subst (λ x. c.Clash a x b code) (sym (held_code side q a d held exacts)) clash)));
}

-- a code that meets a piece
pub handled_piece : (c : Choices) (start s : State) (tie : Bool) (side : List Literal) (cites : List ℕ) (b code : ℕ) → b < blocks c → MeetsSome c b code
    → IsHandled c start s tie side cites b code
handled_piece c start s tie side cites b code exists met = record {
  covered = λ t rival. inr (inl met);
  settles = λ _ q feasible held is. absurd (feasible.unmet b exists (subst (MeetsSome c b) (sym is) met));
}

held_exact : (side : List Literal) (b code : ℕ) (q : List ℕ) → Holds side q → code_of q b ≡ code → Holds (with_literal side (exact b code)) q
held_exact side b code q held is = held_with side (exact b code) q held (omega arith, omega arith)

-- a code that the base beats
pub handled_base : (c : Choices) (start s : State) (tie : Bool) (side : List Literal) (cites : List ℕ) (b code : ℕ) (r : Option ℕ)
    → IsBase c (with_literal side (exact b code)) r → Beats c s.bar (relied tie s.best) (with_literal side (exact b code)) r → IsHandled c start s tie side cites b code
handled_base c start s tie side cites b code r base beats = record {
  covered = λ t rival. inr (inr (inl (r, base, beats.refutes t rival)));
  settles = λ _ q feasible held is.
      let inside = held_exact side b code q held is in
      beats.settles q feasible inside (base-at_most c (with_literal side (exact b code)) q r feasible.is_plan inside base);
}

-- a code that a record covers
pub handled_cite : (c : Choices) (start s : State) (tie : Bool) (side : List Literal) (cites : List ℕ) (b code k : ℕ)
    → Contains cites k → IsAnswered c start s tie k (with_literal side (exact b code)) → IsHandled c start s tie side cites b code
handled_cite c start s tie side cites b code k cited answer = record {
  covered = λ t rival. inr (inr (inr (k, answer.record_is, cited, answer.at, answer.contains)));
  settles = λ right q feasible held is.
      answer.settles right q feasible (held_exact side b code q held is);
}

cited_more : (c : Choices) (log more : List Record) (cites cites' : List ℕ) (box : List Literal)
    → ((k : ℕ) → Contains cites k → Contains cites' k) → IsCited c log cites box → IsCited c (log ++ more) cites' box
cited_more c log more cites cites' box some (k, r, cited, at, cover) = (k, r, some k cited, get_before log more k r at, cover)

covered_more : (c : Choices) (t : Option (List ℕ)) (log more : List Record) (side : List Literal) (cites cites' : List ℕ) (b code : ℕ)
    → ((k : ℕ) → Contains cites k → Contains cites' k) → IsCovered c t log side cites b code → IsCovered c t (log ++ more) side cites' b code
covered_more c t log more side cites cites' b code some h = elim h [
  | inl clash ↦ inl clash
  | inr o ↦ elim o [
    | inl met ↦ inr (inl met)
    | inr p ↦ elim p [
      | inl base ↦ inr (inr (inl base))
      | inr cited ↦ inr (inr (inr (cited_more c log more cites cites' (with_literal side (exact b code)) some cited)))
    ]
  ]
]

pub covered_cites : (c : Choices) (t : Option (List ℕ)) (log : List Record) (side : List Literal) (cites cites' : List ℕ) (b code : ℕ)
    → ((k : ℕ) → Contains cites k → Contains cites' k) → IsCovered c t log side cites b code → IsCovered c t log side cites' b code
covered_cites c t log side cites cites' b code some h = elim h [
  | inl clash ↦ inl clash
  | inr o ↦ elim o [
    | inl met ↦ inr (inl met)
    | inr p ↦ elim p [
      | inl base ↦ inr (inr (inl base))
      | inr (k, r, cited, at, cover) ↦ inr (inr (inr (k, r, some k cited, at, cover)))
    ]
  ]
]

-- a handled code stays handled, with more citations, and where more rests on the best
pub handled_later : (c : Choices) (start s s' : State) (tie tie' : Bool) (side : List Literal) (cites cites' : List ℕ) (b code : ℕ) → s.bar < 2 ^ 64 → Grows c s s'
    → (tie ≡ true → tie' ≡ true) → ((k : ℕ) → Contains cites k → Contains cites' k) → IsHandled c start s tie side cites b code → IsHandled c start s' tie' side cites' b code
handled_later c start s s' tie tie' side cites cites' b code fits g raise some h =
    let (more, e) = g.more in
    let later = later_trans c s.bar s'.bar s'.bar (relied tie s.best) (relied tie s'.best) (relied tie' s'.best)
    (later_relied c tie s.bar s'.bar s.best s'.best g.later) (later_raise c tie tie' s'.bar s'.best raise) in
    record {
      covered = λ t rival. subst (λ log. IsCovered c t log side cites' b code) (sym e)
          (covered_more c t s.log more side cites cites' b code some (h.covered t (rival_later c s.bar s'.bar (relied tie s.best) (relied tie' s'.best) t fits later rival)));
      settles = λ right q feasible held is. settled_later c s.bar s'.bar (relied tie s.best) (relied tie' s'.best) q later (h.settles right q feasible held is);
    }

-- what is handled from a later start is handled from an earlier one
pub handled_from : (c : Choices) (start start' s : State) (tie : Bool) (side : List Literal) (cites : List ℕ) (b code : ℕ) → Grows c start start'
    → IsHandled c start' s tie side cites b code → IsHandled c start s tie side cites b code
handled_from c start start' s tie side cites b code g h = record { covered = h.covered; settles = λ right. h.settles (g.settles right) }

pub answered_from : (c : Choices) (start start' s : State) (tie : Bool) (k : ℕ) (box : List Literal) → Grows c start start' → IsAnswered c start' s tie k box → IsAnswered c start s tie k box
answered_from c start start' s tie k box g h = record {
  record_is = h.record_is;
  at = h.at;
  contains = h.contains;
  settles = λ right. h.settles (g.settles right);
  clean = λ right. h.clean (g.clean right);
}

-- citations stay good, from an earlier start, and where more rests on the best
pub cited_later : (c : Choices) (start s s' : State) (tie tie' : Bool) (cites : List ℕ) → s.bar < 2 ^ 64 → Grows c s s' → (tie ≡ true → tie' ≡ true)
    → AreCited c start s tie cites → AreCited c start s' tie' cites
cited_later c start s s' tie tie' cites fits g raise h =
    let (more, e) = g.more in
    let n : length s'.log ≡ length s.log + length more = ap length e ∙ length-append s.log more in
    record {
      earlier = All-weaker (λ k. k < length s.log) (λ k. k < length s'.log) (λ k l. omega arith) cites h.earlier;
      clean = λ right none k d l.
          subst (λ log. IsClean c s'.bar log (get_or cites k d)) (sym e)
          (clean_later c s.bar s'.bar s.log more (get_or cites k d) fits g.later.falls (h.earlier k d l) (h.clean right (lower tie tie' raise none) k d l));
    }
  where
    lower : (tie tie' : Bool) → (tie ≡ true → tie' ≡ true) → tie' ≡ false → tie ≡ false
    lower true tie' raise none = absurd (true≢false (sym (raise refl) ∙ none))
    lower false tie' raise none = refl

pub cited_from : (c : Choices) (start start' s : State) (tie : Bool) (cites : List ℕ) → Grows c start start' → AreCited c start' s tie cites → AreCited c start s tie cites
cited_from c start start' s tie cites g h = record { earlier = h.earlier; clean = λ right. h.clean (g.clean right) }

pub cited_append : (c : Choices) (start s : State) (tie : Bool) (xs ys : List ℕ) → AreCited c start s tie xs → AreCited c start s tie ys → AreCited c start s tie (xs ++ ys)
cited_append c start s tie xs ys h k = record {
  earlier = All-append (λ k. k < length s.log) xs ys h.earlier k.earlier;
  clean = λ right none. All-append (IsClean c s.bar s.log) xs ys (h.clean right none) (k.clean right none);
}

pub cited_none : (c : Choices) (start s : State) (tie : Bool) → AreCited c start s tie []
cited_none c start s tie = record { earlier = All-nil (λ k. k < length s.log); clean = λ _ _. All-nil (IsClean c s.bar s.log) }

pub cited_one : (c : Choices) (start s : State) (tie : Bool) (k : ℕ) (box : List Literal) → IsAnswered c start s tie k box → AreCited c start s tie (k ∷ [])
cited_one c start s tie k box h = record {
  earlier = All-cons (λ k. k < length s.log) k [] (slice_get_within s.log k h.record_is h.at) (All-nil (λ k. k < length s.log));
  clean = λ right none. All-cons (IsClean c s.bar s.log) k [] (h.clean right none) (All-nil (IsClean c s.bar s.log));
}

-- the literal of a branch's range
abbrev pub range_literal : ℕ → ℕ → ℕ → Literal
range_literal b lo hi = record { block = b; lo = lo; hi = hi }

-- where each code of the range is handled, the branch is a step against every rival
pub branch_steps : (c : Choices) (start s : State) (tie : Bool) (side : List Literal) (cites : List ℕ) (b lo hi : ℕ) → IsBox c side → b < blocks c → LeavesFree side b → IsRange c b lo hi
    → All (λ k. k < length s.log) cites → ((code : ℕ) → lo ≤ code → code < hi → IsHandled c start s tie side cites b code)
    → (t : Option (List ℕ)) → IsRival c s.bar (relied tie s.best) t → IsStep c t s.log (Branch b lo hi side cites)
branch_steps c start s tie side cites b lo hi box exists free range earlier handled t rival = record {
  side_is = box;
  block = exists;
  free = free;
  range = range;
  earlier_only = earlier;
  covered = λ code l h. (handled code l h).covered t rival;
}

-- and its result settles its feasible plans
pub branch_settles : (c : Choices) (start s : State) (tie : Bool) (side : List Literal) (cites : List ℕ) (b lo hi : ℕ) → b < blocks c → LeavesFree side b
    → ((code : ℕ) → lo ≤ code → code < hi → IsHandled c start s tie side cites b code) → StoreSettles c start
    → Settles c s.bar (relied tie s.best) (result_of c (Branch b lo hi side cites))
branch_settles c start s tie side cites b lo hi exists free handled right q feasible held =
    let (inside, range) = either_held (range_literal b lo hi) side q ((lo == 0) && (hi == count c b)) free
    (λ e. let two = and_parts (lo == 0) (hi == count c b) e in
    let z = eqb-true lo 0 two.0 in let w = eqb-true hi (count c b) two.1 in let l = feasible.is_plan.in_range b exists in
    (omega arith, omega arith)) held in
    (handled (code_of q b) range.0 range.1).settles right q feasible inside refl

-- a branch that is pushed answers its own result
pub branch_answers : (c : Choices) (start s : State) (tie : Bool) (side : List Literal) (cites : List ℕ) (b lo hi : ℕ) (box : List Literal) → s.bar < 2 ^ 64
    → IsBox c side → b < blocks c → LeavesFree side b → IsRange c b lo hi
    → AreCited c start s tie cites → ((code : ℕ) → lo ≤ code → code < hi → IsHandled c start s tie side cites b code) → IsBox c (result_of c (Branch b lo hi side cites)) → Covers c (result_of c (Branch b lo hi side cites)) box
    → IsAnswered c start (record { bar = s.bar; best = s.best; log = s.log ++ Branch b lo hi side cites ∷ []; store = s.store }) tie (length s.log) box
branch_answers c start s tie side cites b lo hi box fits is exists free range cited handled result cover = record {
  record_is = Branch b lo hi side cites;
  at = get_last s.log (Branch b lo hi side cites);
  contains = cover;
  settles = λ right q feasible held. branch_settles c start s tie side cites b lo hi exists free handled right q feasible
      (held_covered c (result_of c (Branch b lo hi side cites)) box q (exist-box c (result_of c (Branch b lo hi side cites)) result) feasible.is_plan cover held);
  clean = λ right none. clean_push c s.bar s.log (Branch b lo hi side cites) fits
      (λ t rival. branch_steps c start s tie side cites b lo hi is exists free range cited.earlier handled t (subst (λ best. IsRival c s.bar best t) (unrelied tie none) rival))
      cited.earlier (cited.clean right none);
}
  where
    unrelied : (tie : Bool) → tie ≡ false → None ≡ relied tie s.best
    unrelied true e = absurd (true≢false e)
    unrelied false e = refl

-- a side that its fit beats
pub fit_answers : (c : Choices) (start s : State) (tie : Bool) (side box : List Literal) (r : Option ℕ) → s.bar < 2 ^ 64 → IsBox c side → IsFit c side r
    → Beats c s.bar (relied tie s.best) side r → Covers c side box
    → ((t : Option (List ℕ)) → IsRival c s.bar (relied tie s.best) t → IsStep c t s.log (Fit side))
    × IsAnswered c start (record { bar = s.bar; best = s.best; log = s.log ++ Fit side ∷ []; store = s.store }) tie (length s.log) box
fit_answers c start s tie side box r fits is fit beats cover = (
  λ t rival. (is, (r, fit, beats.refutes t rival)),
  record {
    record_is = Fit side;
    at = get_last s.log (Fit side);
    contains = cover;
    settles = λ _ q feasible held.
        let inside = held_covered c side box q (exist-box c side is) feasible.is_plan cover held in
        beats.settles q feasible inside (fit-at_most c side q r is feasible inside fit);
    clean = λ _ none. clean_push c s.bar s.log (Fit side) fits
        (λ t rival. (is, (r, fit, beats.refutes t (subst (λ best. IsRival c s.bar best t) (unrelied tie none) rival))))
        (All-nil (λ k. k < length s.log)) (All-nil (IsClean c s.bar s.log));
  },
)
  where
    unrelied : (tie : Bool) → tie ≡ false → None ≡ relied tie s.best
    unrelied true e = absurd (true≢false e)
    unrelied false e = refl

-- a side that its energy beats
pub energy_answers : (c : Choices) (start s : State) (tie : Bool) (from to : ℕ) (side box : List Literal) (r : Option ℕ) → s.bar < 2 ^ 64 → IsSound c side (IsEnergy c from to side) → IsBox c side
    → from ≤ to → to < c.days → IsEnergy c from to side r → Beats c s.bar (relied tie s.best) side r → Covers c side box
    → ((t : Option (List ℕ)) → IsRival c s.bar (relied tie s.best) t → IsStep c t s.log (Energy from to side))
    × IsAnswered c start (record { bar = s.bar; best = s.best; log = s.log ++ Energy from to side ∷ []; store = s.store }) tie (length s.log) box
energy_answers c start s tie from to side box r fits sound is order day energy beats cover = (
  λ t rival. (is, order, day, (r, energy, beats.refutes t rival)),
  record {
    record_is = Energy from to side;
    at = get_last s.log (Energy from to side);
    contains = cover;
    settles = λ _ q feasible held.
        let inside = held_covered c side box q (exist-box c side is) feasible.is_plan cover held in
        beats.settles q feasible inside (sound q r feasible inside energy);
    clean = λ _ none. clean_push c s.bar s.log (Energy from to side) fits
        (λ t rival. (is, order, day, (r, energy, beats.refutes t (subst (λ best. IsRival c s.bar best t) (unrelied tie none) rival))))
        (All-nil (λ k. k < length s.log)) (All-nil (IsClean c s.bar s.log));
  },
)
  where
    unrelied : (tie : Bool) → tie ≡ false → None ≡ relied tie s.best
    unrelied true e = absurd (true≢false e)
    unrelied false e = refl

-- a rival of the best is a rival where the best is not relied on
pub rival_relied : (c : Choices) (tie : Bool) (bar : ℕ) (best t : Option (List ℕ)) → bar < 2 ^ 64 → IsRival c bar best t → IsRival c bar (relied tie best) t
rival_relied c true bar best t fits r = r
rival_relied c false bar best t fits r = rival_later c bar bar None best t fits (later_none c bar best) r

-- a stored box that contains a box answers for it
pub hit_answers : (c : Choices) (s : State) (tie : Bool) (box : List Literal) (tag : ℕ) → IsStored c s.log s.store → IsBoxHit c s.store box tag → IsAnswered c s s tie tag box
hit_answers c s tie box tag stored (k, e, within, is, (same, cover)) =
    let t : IsTagged c s.log e = All-contains (IsTagged c s.log) s.store e stored (k, within, is) in
    subst (λ tag. IsAnswered c s s tie tag box) same (record {
      record_is = t.record_is;
      at = t.at;
      contains = covers_trans c (result_of c t.record_is) e.part box t.result_is t.contains cover;
      settles = λ right q feasible held.
          let inside = held_covered c e.part box q (exist-box c e.part t.part_is) feasible.is_plan cover held in
          settled_later c s.bar s.bar None (relied tie s.best) q (later_none c s.bar (relied tie s.best))
          (All-contains (λ e. Settles c s.bar None e.part) s.store e right (k, within, is) q feasible inside);
      clean = λ right _. All-contains (λ e. IsClean c s.bar s.log e.tag) s.store e right (k, within, is);
    })
