-- What a worker posts, and what it imports.
use Rattle.std.proofs.Common.{◌≡◌, ℕ, zero, suc, ◌+◌, ◌-◌, ◌^◌, ◌<◌, ◌≤◌, List, [], ◌∷◌, ◌++◌, get_or, length, map, take, false, Option, Some, None, sym, ap, ◌∙◌, subst, inl, inr, arith, length-append}
use Rattle.std.specs.Prelude.{slice_get}
use Rattle.std.specs.List.{All, Contains}
use Rattle.std.proofs.lemmas.List.{length-take}
use Rattle.std.proofs.lemmas.List.Elements.{All-append, All-contains, All-cons, All-nil, All-weaker, Contains-push}
use Rattle.std.proofs.lemmas.Option.{same_Some, slice_get-get_or, slice_get_within}
use Rattle.common_lists.proofs.ListLaws.{map_length, get_map}
use Rattle.shape_exact.specs.Yards.{PlainYard}
use Rattle.plan_rule.specs.declared.literal.Literal.{Literal}
use Rattle.plan_rule.specs.Boxes.{AreAmong, Holds, IsBox}
use Rattle.plan_rule.specs.Choices.{Choices, blocks}
use Rattle.plan_rule.specs.Laws.{AreSmall}
use Rattle.plan_rule.specs.Paths.{IsWithin}
use Rattle.plan_rule.specs.Reports.{IsBar}
use Rattle.plan_rule.specs.Yards.{choices}
use Rattle.refutation_log.specs.declared.record.Record.{Record}
use Rattle.refutation_log.specs.declared.record.Record.TheVariants.{Branch, Fit, Energy}
use Rattle.refutation_log.specs.Logs.{AreSteps, CiteEarlier, PlainCapsule, appended, cites_of, raised}
use Rattle.refutation_log.specs.Steps.{IsStep, IsStepAt, result_of}
use Rattle.refutation_log.proofs.AppendedLaws.{appended_steps, get_after, later_step, same_result}
use Rattle.nogood_store.specs.declared.nogood.Nogood.{Nogood}
use Rattle.nogood_store.specs.Hits.{PlainStore}
use Rattle.branch_kernel.specs.Clean.{IsClean, Leads}
use Rattle.branch_kernel.specs.Known.{AreKnown}
use Rattle.branch_kernel.specs.Rivals.{IsRival, Settles}
use Rattle.branch_kernel.specs.Stored.{IsKept, IsStored, IsTagged}
use Rattle.branch_kernel.proofs.CoverLaws.{covers_self, exist-box}
use Rattle.branch_kernel.proofs.GrowthLaws.{clean_later, tagged_more}
use Rattle.branch_kernel.proofs.NodeLaws.{node_is_box}
use Rattle.branch_core.specs.Proper.{AreProper}
use Rattle.incumbent_word.specs.Calls.{IsFetched}
use Rattle.incumbent_word.specs.Sittings.{Place, Sitting}
use Rattle.incumbent_word.specs.declared.slots.Fetched.{Fetched}
use Rattle.incumbent_word.specs.declared.slots.Fetched.TheVariants as fetched
use Rattle.incumbent_word.specs.declared.slots.Posted.TheVariants as posted
use Rattle.incumbent_word.specs.Sharing.{IsShareable}
use Rattle.log_parts.specs.Picked.{IsDerivation}
use Rattle.log_parts.proofs.PartLaws.{read_at}
use Rattle.branch_workers.specs.Stock.{IsImported, IsLastKept, IsNamed, IsPostable, IsStorable, IsStocked}
use Rattle.branch_workers.specs.Work.{IsGrownLog}
use Rattle.branch_workers.proofs.ReportLaws.{best_within}
use Rattle.branch_workers.proofs.StockLaws.{all_below}
use Rattle.branch_workers.proofs.TakenLaws.{place_of_two, unmapped}

-- an answer within a bar is a rival, as long as nothing is told of a best
within_rival : (c : Choices) (bar : ℕ) (t : Option (List ℕ)) → IsRival c bar None t → IsWithin c t bar
within_rival c bar None h = h
within_rival c bar (Some p) (plan, low, none) = (plan, low)

rival_within : (c : Choices) (bar : ℕ) (t : Option (List ℕ)) → IsWithin c t bar → IsRival c bar None t
rival_within c bar None h = h
rival_within c bar (Some p) (plan, low) = (plan, low, tt)

within_more : (c : Choices) (n m : ℕ) (t : Option (List ℕ)) → n ≤ m → m < 2 ^ 64 → IsWithin c t n → IsWithin c t m
within_more c n m None l fits h = omega arith
within_more c n m (Some p) l fits (plan, low) = (plan, omega arith)

-- some answer is within a bar
some_within : (c : Choices) (n : ℕ) → IsBar c n → (t : Option (List ℕ)) × IsWithin c t n
some_within c n bar = elim bar [ inl greatest ↦ (None, greatest) | inr (p, feasible, e) ↦ (Some p, (feasible.is_plan, omega arith)) ]

-- what may be posted may be shared
pub postable_shareable : (yard : PlainYard) (seen tag : ℕ) (log : List Record) (capsule : PlainCapsule) → IsPostable (choices yard) seen log tag → capsule.bar ≡ seen → IsDerivation log tag capsule.log
    → IsShareable yard capsule
postable_shareable yard seen tag log capsule h bar der = record {
  steps = λ t within. der.steps yard t (λ n i leads. h.clean n i leads t (rival_within (choices yard) seen t (subst (IsWithin (choices yard) t) bar within)));
  clear = λ i r last at q feasible holds.
      let (e, at_tag, same) = der.result i r last at in
      let e_is : e ≡ h.record_is = same_Some e h.record_is (sym at_tag ∙ h.at) in
      let inside : Holds (result_of (choices yard) h.record_is) q = subst (λ box. Holds box q) (same yard ∙ ap (result_of (choices yard)) e_is) holds in
      elim (h.settles q feasible inside) [ inl above ↦ (omega (arith, bar, above)) | inr none ↦ absurd none ];
}

-- records that are steps cite earlier records alone
steps_earlier : (c : Choices) (t : Option (List ℕ)) (log : List Record) → AreSteps c t log → CiteEarlier log
steps_earlier c t log steps i r at =
    let (s, at', step) = steps i (slice_get_within log i r at) in
    earlier s r (same_Some s r (sym at' ∙ at)) step
  where
    earlier : (s r : Record) → s ≡ r → IsStep c t (take i log) s → All (λ k. k < i) (cites_of r)
    earlier (Branch b lo hi side cites) r is step = subst (λ r. All (λ k. k < i) (cites_of r)) is
        (All-weaker (λ k. k < length (take i log)) (λ k. k < i) (λ k l. let n = length-take i log in omega arith) cites step.earlier_only)
    earlier (Fit side) r is step = subst (λ r. All (λ k. k < i) (cites_of r)) is (All-nil (λ k. k < i))
    earlier (Energy from to side) r is step = subst (λ r. All (λ k. k < i) (cites_of r)) is (All-nil (λ k. k < i))

pub shared_earlier : (yard : PlainYard) (n : ℕ) (capsule : PlainCapsule) → IsShareable yard capsule → capsule.bar < 2 ^ 64 → IsBar (choices yard) n → n ≤ capsule.bar → CiteEarlier capsule.log
shared_earlier yard n capsule h fits bar l =
    let (t, within) = some_within (choices yard) n bar in
    steps_earlier (choices yard) t capsule.log (h.steps t (within_more (choices yard) n capsule.bar t l fits within))

-- a record of the second log is a step in the whole
new_step : (c : Choices) (t : Option (List ℕ)) (log other whole : List Record) (i : ℕ) → whole ≡ appended log other → length log ≤ i → i < length whole → AreSteps c t other → IsStepAt c t whole i
new_step c t log other whole i is low high steps =
    let n : length whole ≡ length log + length other = ap length is ∙ length-append log (map (raised (length log)) other) ∙ ap (λ k. length log + k) (map_length (raised (length log)) other) in
    subst (λ l. IsStepAt c t l i) (sym is) (subst (IsStepAt c t (appended log other)) (let e : length log + (i - length log) ≡ i = omega arith in e) (later_step c t log other (i - length log) (steps (i - length log) (omega arith))))

pub shared_proper : (yard : PlainYard) (n : ℕ) (capsule : PlainCapsule) (log whole : List Record) (from : ℕ) → IsShareable yard capsule → capsule.bar < 2 ^ 64 → IsBar (choices yard) n → n ≤ capsule.bar
    → whole ≡ appended log capsule.log → from ≡ length log
    → ((t : Option (List ℕ)) → ((i : ℕ) → from ≤ i → i < length whole → IsStepAt (choices yard) t whole i) → AreProper (choices yard) from whole) → AreProper (choices yard) (length log) whole
shared_proper yard n capsule log whole from h fits bar l is from_is law =
    let (t, within) = some_within (choices yard) n bar in
    let steps = h.steps t (within_more (choices yard) n capsule.bar t l fits within) in
    subst (λ k. AreProper (choices yard) k whole) from_is (law t (λ i low high. new_step (choices yard) t log capsule.log whole i is (omega arith) high steps))

-- a step's record has a range, and its result is a box
step_named : (c : Choices) (t : Option (List ℕ)) (earlier : List Record) (r : Record) → IsStep c t earlier r → IsNamed c r × IsBox c (result_of c r)
step_named c t earlier (Branch b lo hi side cites) step = (
  elim step.range [ inl some ↦ inl some.0 | inr none ↦ inr (none.0, (let x = none.1 in let y = none.2 in omega arith)) ],
  node_is_box c side b lo hi (record { side_is = step.side_is; block = step.block; free = step.free; range = step.range }),
)
step_named c t earlier (Fit side) step = (tt, step.0)
step_named c t earlier (Energy from to side) step = (tt, step.0)

pub shared_storable : (yard : PlainYard) (n : ℕ) (capsule : PlainCapsule) (log whole : List Record) → AreKnown (choices yard) → 1 ≤ length capsule.log → IsShareable yard capsule → capsule.bar < 2 ^ 64
    → IsBar (choices yard) n → n ≤ capsule.bar → whole ≡ appended log capsule.log → IsStorable (choices yard) whole
shared_storable yard n capsule log whole known some_records h fits bar l is =
    let size : length whole ≡ length log + length capsule.log = ap length is ∙ length-append log (map (raised (length log)) capsule.log) ∙ ap (λ k. length log + k) (map_length (raised (length log)) capsule.log) in
    let (t, within) = some_within (choices yard) n bar in
    let steps = h.steps t (within_more (choices yard) n capsule.bar t l fits within) in record {
      some = omega arith;
      last = λ i r last at.
          let (s, at', step) = new_step (choices yard) t log capsule.log whole i is (omega arith) (omega arith) steps in
          let (named, boxed) = step_named (choices yard) t (take i whole) s step in
          let s_is : s ≡ r = same_Some s r (sym at' ∙ at) in (
            subst (IsNamed (choices yard)) s_is named,
            subst (λ r. AreAmong 32 (result_of (choices yard) r)) s_is
                (All-weaker (λ l. l.block < blocks (choices yard)) (λ l. l.block < 32) (λ l b. let f = known.few in omega arith) (result_of (choices yard) s) (exist-box (choices yard) (result_of (choices yard) s) boxed)),
          );
    }

pub imported_grown : (yard : PlainYard) (n : ℕ) (capsule : PlainCapsule) (log whole : List Record) (store store' : PlainStore) (seen seen' : List ℕ) → AreSmall (choices yard) → IsShareable yard capsule
    → capsule.bar < 2 ^ 64 → IsBar (choices yard) n → n ≤ capsule.bar → ((k : ℕ) → Contains seen k → Contains seen' k) → IsImported (choices yard) log whole store store' capsule → IsGrownLog (choices yard) log whole seen seen'
imported_grown yard n capsule log whole store store' seen seen' small h fits bar l kept imp = record {
  grown = (map (raised (length log)) capsule.log, imp.whole);
  kept = kept;
  steps = λ t best s. subst (AreSteps (choices yard) t) (sym imp.whole) (appended_steps (choices yard) t log capsule.log s
      (h.steps t (within_more (choices yard) n capsule.bar t l fits (best_within (choices yard) t n small best bar))));
  proper = imp.proper;
}

mapped : (f : ℕ → ℕ) (xs : List ℕ) (j : ℕ) → Contains (map f xs) j → (x : ℕ) × (f x ≡ j)
mapped f [] j (k, l, e) = absurd (omega arith)
mapped f (x ∷ xs) j (zero, l, e) = (x, e)
mapped f (x ∷ xs) j (suc k, l, e) = mapped f xs j (k, omega arith, e)

cites_after : (n : ℕ) (r : Record) (j : ℕ) → Contains (cites_of (raised n r)) j → n ≤ j
cites_after n (Branch b lo hi side cites) j held = let (x, e) = mapped (λ k. k + n) cites j held in omega arith
cites_after n (Fit side) j (k, l, e) = absurd (omega arith)
cites_after n (Energy from to side) j (k, l, e) = absurd (omega arith)

second : (log other : List Record) (k j : ℕ) (r : Record) → length log ≤ k → slice_get (appended log other) k ≡ Some r → Contains (cites_of r) j → length log ≤ j
second log other k j r low at cited = elim (place_of_two log (map (raised (length log)) other) k r at) [
  | inl here ↦ (let a = slice_get_within log k r here in absurd (omega arith))
  | inr there ↦
      (let (s, at_s, same) = unmapped (length log) other there.0 r there.1 in
      cites_after (length log) s j (subst (λ r. Contains (cites_of r) j) (sym same) cited))
]

-- citations of the second log lead to records of the second log
leads_after : (log other : List Record) (m k i : ℕ) → length log ≤ k → Leads (appended log other) m k i → length log ≤ i
leads_after log other zero k i low same = omega arith
leads_after log other (suc m) k i low (r, j, at, cited, below, rest) =
    leads_after log other m j i (second log other k j r low at cited) rest

leads_low : (log : List Record) (m k i : ℕ) → Leads log m k i → i ≤ k
leads_low log zero k i same = omega arith
leads_low log (suc m) k i (r, j, at, cited, below, rest) = let a = leads_low log m j i rest in omega arith

imported_clean : (c : Choices) (n : ℕ) (log other whole : List Record) (tag : ℕ) → whole ≡ appended log other → length log ≤ tag → tag < length whole
    → ((t : Option (List ℕ)) → IsWithin c t n → AreSteps c t other) → IsClean c n whole tag
imported_clean c n log other whole tag is low high steps m i leads t rival =
    let a = leads_after log other m tag i low (subst (λ l. Leads l m tag i) is leads) in
    let b = leads_low whole m tag i leads in
    new_step c t log other whole i is a (omega arith) (steps t (within_rival c n t rival))

-- the last record of the whole is the last of the second log, with its citations raised
last_of_whole : (log other whole : List Record) (num : ℕ) (r : Record) → whole ≡ appended log other → 1 ≤ length other → num + 1 ≡ length whole → slice_get whole num ≡ Some r
    → (j : ℕ) × (s : Record) × (j + 1 ≡ length other) × (slice_get other j ≡ Some s) × (raised (length log) s ≡ r) × (length log ≤ num)
last_of_whole log other whole num r is some_records last at =
    let size : length whole ≡ length log + length other = ap length is ∙ length-append log (map (raised (length log)) other) ∙ ap (λ k. length log + k) (map_length (raised (length log)) other) in
    let j = num - length log in
    let s = get_or other j r in
    let at_s = slice_get-get_or other j r (omega arith) in
    let there : slice_get (appended log other) (length log + j) ≡ Some (raised (length log) s) = get_after log (map (raised (length log)) other) j (raised (length log) s) (get_map (raised (length log)) other j s at_s) in
    let there' : slice_get whole num ≡ Some (raised (length log) s) = subst (λ k. slice_get whole k ≡ Some (raised (length log) s)) (let e : length log + j ≡ num = omega arith in e) (subst (λ l. slice_get l (length log + j) ≡ Some (raised (length log) s)) (sym is) there) in
    (j, s, omega arith, at_s, same_Some (raised (length log) s) r (sym there' ∙ at), omega arith)

pub imported_stocked : (yard : PlainYard) (key' : ℕ) (capsule : PlainCapsule) (log whole : List Record) (store store' : PlainStore) (seen seen' : List ℕ) → 1 ≤ length capsule.log → IsShareable yard capsule
    → capsule.bar < 2 ^ 64 → IsBar (choices yard) key' → key' ≤ capsule.bar → Contains seen' key' → ((k : ℕ) → Contains seen k → Contains seen' k) → IsImported (choices yard) log whole store store' capsule
    → IsStocked (choices yard) log store seen → IsStocked (choices yard) whole store' seen'
imported_stocked yard key' capsule log whole store store' seen seen' some_records h fits bar l key_seen kept imp stocked = record {
  depth = imp.prefix ∙ stocked.depth;
  stored = elim imp.kept [
    | inl same ↦ subst (IsStored c whole) (sym same) old_stored
    | inr (r, num, last, at, pushed) ↦ subst (IsStored c whole) (sym pushed)
        (All-append (IsTagged c whole) store.nogoods (record { part = result_of c r; tag = num } ∷ []) old_stored (All-cons (IsTagged c whole) (record { part = result_of c r; tag = num }) [] (new_tagged r num last at) (All-nil (IsTagged c whole))))
  ];
  settles = λ n low. elim imp.kept [
    | inl same ↦ subst (All (Settled n)) (sym same) (stocked.settles n (all_below n seen seen' kept low))
    | inr (r, num, last, at, pushed) ↦ subst (All (Settled n)) (sym pushed)
        (All-append (Settled n) store.nogoods (record { part = result_of c r; tag = num } ∷ []) (stocked.settles n (all_below n seen seen' kept low))
        (All-cons (Settled n) (record { part = result_of c r; tag = num }) [] (new_settled n (All-contains (λ k. n ≤ k) seen' key' low key_seen) r num last at) (All-nil (Settled n))))
  ];
  clean = λ n within low. elim imp.kept [
    | inl same ↦ subst (All (Clean n)) (sym same) (old_clean n within (stocked.clean n within (all_below n seen seen' kept low)))
    | inr (r, num, last, at, pushed) ↦ subst (All (Clean n)) (sym pushed)
        (All-append (Clean n) store.nogoods (record { part = result_of c r; tag = num } ∷ []) (old_clean n within (stocked.clean n within (all_below n seen seen' kept low)))
        (All-cons (Clean n) (record { part = result_of c r; tag = num }) [] (new_clean n (All-contains (λ k. n ≤ k) seen' key' low key_seen) r num last at) (All-nil (Clean n))))
  ];
}
  where
    c : Choices
    c = choices yard

    Settled : ℕ → Nogood → Type 0
    Settled n = λ e. Settles c n None e.part

    Clean : ℕ → Nogood → Type 0
    Clean n = λ e. IsClean c n whole e.tag

    old_stored : IsStored c whole store.nogoods
    old_stored = subst (λ l. IsStored c l store.nogoods) (sym imp.whole)
        (All-weaker (IsTagged c log) (IsTagged c (appended log capsule.log)) (tagged_more c log (map (raised (length log)) capsule.log)) store.nogoods stocked.stored)

    old_clean : (n : ℕ) → n < 2 ^ 64 → All (λ (e : Nogood). IsClean c n log e.tag) store.nogoods → All (Clean n) store.nogoods
    old_clean n within all = λ k d m.
        let t = stocked.stored k d m in
        subst (λ l. IsClean c n l (get_or store.nogoods k d).tag) (sym imp.whole)
        (clean_later c n n log (map (raised (length log)) capsule.log) (get_or store.nogoods k d).tag within (omega arith) (slice_get_within log (get_or store.nogoods k d).tag t.record_is t.at) (all k d m))

    new_tagged : (r : Record) (num : ℕ) → num + 1 ≡ length whole → slice_get whole num ≡ Some r → IsTagged c whole (record { part = result_of c r; tag = num })
    new_tagged r num last at =
        let (t, within) = some_within c key' bar in
        let (j, s, more, at_s, same, low) = last_of_whole log capsule.log whole num r imp.whole some_records last at in
        let (s', at', step) = new_step c t log capsule.log whole num imp.whole low (omega arith) (h.steps t (within_more c key' capsule.bar t l fits within)) in
        let s_is : s' ≡ r = same_Some s' r (sym at' ∙ at) in
        let boxed : IsBox c (result_of c r) = subst (λ r. IsBox c (result_of c r)) s_is (step_named c t (take num whole) s' step).1 in
        record { record_is = r; at = at; contains = covers_self c (result_of c r); result_is = boxed; part_is = boxed }

    new_settled : (n : ℕ) → n ≤ key' → (r : Record) (num : ℕ) → num + 1 ≡ length whole → slice_get whole num ≡ Some r → Settles c n None (result_of c r)
    new_settled n m r num last at q feasible holds =
        let (j, s, more, at_s, same, low) = last_of_whole log capsule.log whole num r imp.whole some_records last at in
        let a = h.clear j s more at_s q feasible (subst (λ box. Holds box q) (ap (result_of c) (sym same) ∙ same_result c (length log) s) holds) in
        inl (omega arith)

    new_clean : (n : ℕ) → n ≤ key' → (r : Record) (num : ℕ) → num + 1 ≡ length whole → slice_get whole num ≡ Some r → IsClean c n whole num
    new_clean n m r num last at =
        let (j, s, more, at_s, same, low) = last_of_whole log capsule.log whole num r imp.whole some_records last at in
        imported_clean c n log capsule.log whole num imp.whole low (omega arith) (λ t within. h.steps t (within_more c n capsule.bar t (omega arith) fits within))

-- the last record's box is stored, or not
pub last_kept : (c : Choices) (records log : List Record) (num : ℕ) (r : Record) (part : List Literal) (old new : List Nogood) → records ≡ log → num + 1 ≡ length log → r ≡ get_or records num r → part ≡ result_of c r
    → IsKept false old new (record { part = part; tag = num }) → IsLastKept c log old new
last_kept c records log num r part old new same last at part_is h = elim h [
  | inl kept ↦ inl kept
  | inr pushed ↦ inr (r, num, last, read_at records log num r same (omega arith) at, pushed.1 ∙ ap (λ p. old ++ record { part = p; tag = num } ∷ []) part_is)
]

pub last_among : (c : Choices) (records log : List Record) (num : ℕ) (r : Record) (part : List Literal) → IsStorable c log → records ≡ log → num + 1 ≡ length log → r ≡ get_or records num r → part ≡ result_of c r → AreAmong 32 part
last_among c records log num r part h same last at part_is = subst (AreAmong 32) (sym part_is) (h.last num r last (read_at records log num r same (omega arith) at)).1

-- a fetch changes neither the board of a seat nor what it has seen
pub fetched_place : (slot : ℕ) (old new : Sitting) (f : Fetched) → IsFetched slot old f new → new.place ≡ old.place
fetched_place slot old new fetched.Busy h = ap (λ (s : Sitting). s.place) h
fetched_place slot old new fetched.Nothing h = ap (λ (s : Sitting). s.place) h
fetched_place slot old new (fetched.Got found) h = ap (λ (s : Sitting). s.place) h.0

pub fetched_seen : (slot : ℕ) (old new : Sitting) (f : Fetched) → IsFetched slot old f new → new.seen ≡ old.seen
fetched_seen slot old new fetched.Busy h = ap (λ (s : Sitting). s.seen) h
fetched_seen slot old new fetched.Nothing h = ap (λ (s : Sitting). s.seen) h
fetched_seen slot old new (fetched.Got found) h = ap (λ (s : Sitting). s.seen) h.0

pub same_seen : (seen seen' : List ℕ) → seen' ≡ seen → (k : ℕ) → Contains seen k → Contains seen' k
same_seen seen seen' is k i = subst (λ (l : List ℕ). Contains l k) (sym is) i

pub shareable_here : (a b : Place) (yard : PlainYard) (capsule : PlainCapsule) → a ≡ b → b.yard ≡ yard → IsShareable a.yard capsule → IsShareable yard capsule
shareable_here a b yard capsule same is h = subst (λ (y : PlainYard). IsShareable y capsule) (ap (λ (p : Place). p.yard) same ∙ is) h

pub last_is_seen_too : (seen seen' : List ℕ) (k : ℕ) → seen' ≡ seen ++ k ∷ [] → Contains seen' k
last_is_seen_too seen seen' k is = subst (λ (l : List ℕ). Contains l k) (sym is) (Contains-push seen k)
