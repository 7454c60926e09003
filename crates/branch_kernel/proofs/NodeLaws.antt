-- The steps of a search in the words of its functions.
use Rattle.std.proofs.Common.{◌≡◌, ℕ, ◌+◌, ◌-◌, ◌/◌, ◌^◌, ◌<◌, ◌≤◌, List, [], ◌∷◌, ◌++◌, length, get_or, Option, Some, None, refl, sym, ap, ◌∙◌, subst, inl, inr, arith, length-append, Bool, true, false}
use Rattle.std.specs.Prelude.{Result, Ok, Err, IfOk, OnErr, MatchOption, slice_get, ◌||◌, ◌&&◌, ◌==◌, if◌then◌else◌, ◌↔◌}
use Rattle.std.specs.List.{Contains}
use Rattle.std.proofs.lemmas.Bool.{eq-eqb, false≢true}
use Rattle.std.proofs.lemmas.Option.{none-some}
use Rattle.std.proofs.lemmas.List.Elements.{All-contains, All-contains_itself}
use Rattle.common_lists.proofs.ListLaws.{get_last}
use Rattle.shape_exact.specs.declared.memory.NoMemory.{NoMemory}
use Rattle.plan_rule.specs.declared.literal.Literal.{Literal}
use Rattle.plan_rule.specs.declared.job.Job.{Job}
use Rattle.plan_rule.specs.Choices.{Choices, MeetsSome, count}
use Rattle.plan_rule.specs.Plans.{IsPlan, IsFeasible, IsNotBefore, IsAnswer, total}
use Rattle.plan_rule.specs.Boxes.{IsBox, Covers, exact, with_literal}
use Rattle.plan_rule.specs.Bounds.{IsBase, IsFit, IsEnergy, IsBehindOn, IsAtMost}
use Rattle.plan_rule.specs.Paths.{key}
use Rattle.refutation_log.specs.declared.record.Record.{Record}
use Rattle.refutation_log.specs.declared.record.Record.TheVariants.{Branch, Fit, Energy}
use Rattle.refutation_log.specs.Steps.{IsStep, result_of}
use Rattle.tardiness_bounds.specs.declared.bound.Bound.{Bound}
use Rattle.tardiness_bounds.specs.declared.bound.Bound.TheVariants.{Number}
use Rattle.nogood_store.specs.declared.nogood.Nogood.{Nogood}
use Rattle.tardiness_bounds.specs.Numbers.{number}
use Rattle.branch_kernel.specs.Rivals.{Beats, IsRival, IsLater, Settles}
use Rattle.branch_kernel.specs.States.{relied, IsHeld, IsInside, State}
use Rattle.branch_kernel.specs.Known.{AreKnown}
use Rattle.branch_kernel.specs.Boxes.{HasExactAll, Clashes, node_box}
use Rattle.branch_kernel.specs.Nodes.{IsNode, IsOpenBox, IsPlace}
use Rattle.branch_kernel.specs.Clean.{IsClean, StoreSettles}
use Rattle.branch_kernel.specs.Stored.{IsKept, IsStored, IsFresh}
use Rattle.branch_kernel.specs.Unbeaten.{IsAsked}
use Rattle.branch_kernel.specs.Shows.{IsAnswered, IsShown, IsHandled, AreCited}
use Rattle.branch_kernel.specs.Growth.{Grows, IsReady, Runs}
use Rattle.branch_kernel.specs.Written.{IsWritten, IsBranchWritten}
use Rattle.branch_kernel.proofs.RivalLaws.{beats_tie, beats_leaf}
use Rattle.branch_kernel.proofs.GrowthLaws.{grows_self, grows_later, grows_falls, grows_onto, grows_add, grows_store, handled_base, cited_later, cited_from, cited_append, cited_none, branch_steps, branch_answers, covered_cites, fit_answers, energy_answers, rival_relied, stored_later}
use Rattle.branch_kernel.proofs.WithLaws.{exact_base, with_box, in_range_below, child_open}
use Rattle.branch_kernel.proofs.CoverLaws.{covers_self}

-- keys are below the greatest bar
pub key_fits : (c : Choices) (m : List ℕ) → AreKnown c → IsPlan c m → key c m < 2 ^ 64 - 1
key_fits c m known plan = let t = known.small.key m plan in omega arith

-- a bound that ties with the best, at a box behind it
pub tie_beats : (c : Choices) (bar : ℕ) (best : Option (List ℕ)) (part : List Literal) (m : List ℕ) (bound : Bound) (k : ℕ) → AreKnown c → IsHeld c bar best
    → best ≡ Some m → bound ≡ Number k → k ≡ total c m → IsBehindOn (length m) part m → Beats c bar best part (number bound)
tie_beats c bar best part m bound k known held is least same behind =
    let two : IsFeasible c m × (bar ≤ key c m) = subst (IsHeld c bar) is held in
    subst (λ best. Beats c bar best part (number bound)) (sym is)
    (subst (λ b. Beats c bar (Some m) part (number b)) (sym least)
    (beats_tie c bar m part k two.0 (key_fits c m known two.0.is_plan) two.1 same (subst (λ n. IsBehindOn n part m) two.0.is_plan.one_each behind)))

-- the best so far, where a whole plan is not before it, beats the plan's own box
pub leaf_beats : (c : Choices) (bar : ℕ) (part : List Literal) (best : Option (List ℕ)) (q : List ℕ) → AreKnown c → IsHeld c bar best → IsFeasible c q → HasExactAll c part q
    → IsNotBefore c q best → (r : Option ℕ) × IsBase c part r × Beats c bar best part r
leaf_beats c bar part None q known held feasible exacts not = absurd not
leaf_beats c bar part (Some m) q known held feasible exacts not =
    let t = known.small.total q feasible.is_plan in (
      Some (total c q),
      exact_base c part q feasible.is_plan exacts,
      beats_leaf c bar m q part held.0 feasible.is_plan (key_fits c m known held.0.is_plan) (omega arith) held.1 exacts not,
    )

-- what is held may be an answer
pub held_answer : (c : Choices) (bar : ℕ) (best : Option (List ℕ)) → IsHeld c bar best → IsAnswer c best
held_answer c bar None h = tt
held_answer c bar (Some m) h = h.0

-- what is held is held below a bar that has fallen
pub held_falls : (c : Choices) (bar bar' : ℕ) (best : Option (List ℕ)) → bar' ≤ bar → IsHeld c bar best → IsHeld c bar' best
held_falls c bar bar' None l h = tt
held_falls c bar bar' (Some m) l h = let k = h.1 in (h.0, omega arith)

-- a code beside a side, by the base of the side with the code
pub base_handles : (c : Choices) (start s : State) (tie : Bool) (side child : List Literal) (b code : ℕ) (r : Option ℕ) → child ≡ with_literal side (exact b code)
    → IsBase c child r → Beats c s.bar (relied tie s.best) child r → IsHandled c start s tie side [] b code × AreCited c start s tie []
base_handles c start s tie side child b code r e base beats = (
  handled_base c start s tie side [] b code r (subst (λ box. IsBase c box r) e base) (subst (λ box. Beats c s.bar (relied tie s.best) box r) e beats),
  cited_none c start s tie,
)

-- a node at one of its codes
pub node_at : (c : Choices) (job : Job) (side : List Literal) (b lo hi code : ℕ) → IsNode c job side b lo hi → lo ≤ code → code < hi → IsNode c job side b code (code + 1)
node_at c job side b lo hi code node l h =
    let below = in_range_below c b lo hi code node.range h in
    record {
      side_is = node.side_is;
      clear = node.clear;
      block = node.block;
      free = node.free;
      range = inl (omega arith, omega arith);
      region = λ q feasible held x y. node.region q feasible held (omega arith) (omega arith);
    }

pub or_first : (a b : Bool) → a ≡ true → (a || b) ≡ true
or_first true b e = refl
or_first false b e = absurd (false≢true e)

pub or_second : (a b : Bool) → b ≡ true → (a || b) ≡ true
or_second true b e = refl
or_second false b e = e

-- and what is cited for it
pub cited_once_more : (c : Choices) (start s s' : State) (tie more_tie : Bool) (cites cites' more : List ℕ) → start.bar < 2 ^ 64 → Grows c start s → Grows c s s' → cites' ≡ cites ++ more
    → AreCited c start s tie cites → AreCited c s s' more_tie more → AreCited c start s' (tie || more_tie) cites'
cited_once_more c start s s' tie more_tie cites cites' more fits first g e before now =
    let d = first.later.falls in
    let d' = g.later.falls in
    subst (AreCited c start s' (tie || more_tie)) (sym e)
    (cited_append c start s' (tie || more_tie) cites more
    (cited_later c start s s' tie (tie || more_tie) cites (omega arith) g (or_first tie more_tie) before)
    (cited_later c start s' s' more_tie (tie || more_tie) more (omega arith) (grows_self c s') (or_second tie more_tie) (cited_from c start s s' more_tie more first now)))

pub place_of_node : (c : Choices) (job : Job) (side : List Literal) (b lo hi : ℕ) → IsNode c job side b lo hi → IsPlace c side b lo hi
place_of_node c job side b lo hi node = record { side_is = node.side_is; block = node.block; free = node.free; range = node.range }

-- a node's box is a box
pub node_is_box : (c : Choices) (side : List Literal) (b lo hi : ℕ) → IsPlace c side b lo hi → IsBox c (node_box c side b lo hi)
node_is_box c side b lo hi node = go (lo == 0) (hi == count c b) (eq-eqb lo 0) (eq-eqb hi (count c b))
  where
    go : (s t : Bool) → (lo ≡ 0 → s ≡ true) → (hi ≡ count c b → t ≡ true) → IsBox c (if s && t then side else with_literal side (record { block = b; lo = lo; hi = hi }))
    go true true first whole = node.side_is
    go true false first whole = elim node.range [
      | inr empty ↦ absurd (false≢true (whole (let x = empty.1 in let y = empty.2 in omega arith)))
      | inl some ↦ with_box c side (record { block = b; lo = lo; hi = hi }) node.side_is
          (record { block = node.block; some = some.0; codes = some.1; part = λ w. absurd (false≢true (whole w.1)) })
    ]
    go false t first whole = elim node.range [
      | inr empty ↦ absurd (false≢true (first empty.0))
      | inl some ↦ with_box c side (record { block = b; lo = lo; hi = hi }) node.side_is
          (record { block = node.block; some = some.0; codes = some.1; part = λ w. absurd (false≢true (first w.0)) })
    ]

-- a code stays handled with other citations, as long as none is left out
handled_cites : (c : Choices) (start s : State) (tie : Bool) (side : List Literal) (items cites : List ℕ) (b code : ℕ) → ((k : ℕ) → Contains items k → Contains cites k)
    → IsHandled c start s tie side items b code → IsHandled c start s tie side cites b code
handled_cites c start s tie side items cites b code some h = record {
  covered = λ t rival. covered_cites c t s.log side items cites b code some (h.covered t rival);
  settles = h.settles;
}

-- citations are good where each is one of good citations
cited_same : (c : Choices) (start s : State) (tie : Bool) (items cites : List ℕ) → ((k : ℕ) → Contains cites k → Contains items k)
    → AreCited c start s tie items → AreCited c start s tie cites
cited_same c start s tie items cites some h = record {
  earlier = λ k d l. All-contains (λ k. k < length s.log) items (get_or cites k d) h.earlier (some (get_or cites k d) (All-contains_itself cites k d l));
  clean = λ right none k d l. All-contains (IsClean c s.bar s.log) items (get_or cites k d) (h.clean right none) (some (get_or cites k d) (All-contains_itself cites k d l));
}

-- the record of a range whose codes are all handled
pub branch_done : (c : Choices) (s : State) (bar : ℕ) (best : Option (List ℕ)) (log new : List Record) (store : List Nogood) (tie : Bool) (number : ℕ)
    (side : List Literal) (cites items : List ℕ) (b lo hi last : ℕ) → s.bar < 2 ^ 64 → IsPlace c side b lo hi
    → Grows c s (record { bar = bar; best = best; log = log; store = store })
    → ((x : ℕ) → lo ≤ x → x < last → IsHandled c s (record { bar = bar; best = best; log = log; store = store }) tie side items b x) → hi ≤ last
    → AreCited c s (record { bar = bar; best = best; log = log; store = store }) tie items
    → ((x : ℕ) → Contains cites x ↔ Contains items x) → IsWritten (Ok number) log new (Branch b lo hi side cites)
    → ((t : Option (List ℕ)) → IsRival c bar best t → IsStep c t log (Branch b lo hi side cites))
    × (number + 1 ≡ length new)
    × IsAnswered c s (record { bar = bar; best = best; log = new; store = store }) tie number (node_box c side b lo hi)
    × IsFresh c (length s.log) new (record { part = node_box c side b lo hi; tag = number })
branch_done c s bar best log new store tie number side cites items b lo hi last fits node g handled end cited e (at, grown) =
    let now : State = record { bar = bar; best = best; log = log; store = store } in
    let d = g.later.falls in
    let done : (x : ℕ) → lo ≤ x → x < hi → IsHandled c s now tie side cites b x = λ x l h. handled_cites c s now tie side items cites b x (λ k i. (e k).1 i) (handled x l (omega arith)) in
    let cites_ok : AreCited c s now tie cites = cited_same c s now tie items cites (λ k i. (e k).0 i) cited in
    let steps = branch_steps c s now tie side cites b lo hi node.side_is node.block node.free node.range cites_ok.earlier done in (
      (λ t rival. steps t (rival_relied c tie bar best t (omega arith) rival)),
      (let n = length-append log (Branch b lo hi side cites ∷ []) in let m = ap length grown in omega arith),
      subst (λ k. IsAnswered c s (record { bar = bar; best = best; log = new; store = store }) tie k (node_box c side b lo hi)) (sym at)
          (subst (λ new. IsAnswered c s (record { bar = bar; best = best; log = new; store = store }) tie (length log) (node_box c side b lo hi)) (sym grown)
          (branch_answers c s now tie side cites b lo hi (node_box c side b lo hi) (omega arith) node.side_is node.block node.free node.range cites_ok done
          (node_is_box c side b lo hi node) (covers_self c (node_box c side b lo hi)))),
      record {
        record_is = Branch b lo hi side cites;
        new = (let (added, f) = g.more in let n = length-append s.log added in let m = ap length f in omega arith);
        at = subst (λ k. slice_get new k ≡ Some (Branch b lo hi side cites)) (sym at)
            (subst (λ new. slice_get new (length log) ≡ Some (Branch b lo hi side cites)) (sym grown) (get_last log (Branch b lo hi side cites)));
        result = refl;
        part_is = node_is_box c side b lo hi node;
      },
    )

-- and how the state grows with it, where its side was asked
pub divide_done : (c : Choices) (s : State) (bar : ℕ) (best : Option (List ℕ)) (log new : List Record) (store : List Nogood) (tie : Bool) (number : ℕ)
    (side : List Literal) (cites items : List ℕ) (b lo hi last : ℕ) → s.bar < 2 ^ 64 → IsStored c log store → IsPlace c side b lo hi
    → ((r : Option ℕ) → IsFit c side r → IsAtMost r (s.bar / 2 ^ 32)) → Grows c s (record { bar = bar; best = best; log = log; store = store })
    → ((x : ℕ) → lo ≤ x → x < last → IsHandled c s (record { bar = bar; best = best; log = log; store = store }) tie side items b x) → hi ≤ last
    → AreCited c s (record { bar = bar; best = best; log = log; store = store }) tie items
    → ((x : ℕ) → Contains cites x ↔ Contains items x) → IsWritten (Ok number) log new (Branch b lo hi side cites)
    → Grows c s (record { bar = bar; best = best; log = new; store = store })
    × (number + 1 ≡ length new)
    × IsAnswered c s (record { bar = bar; best = best; log = new; store = store }) tie number (node_box c side b lo hi)
    × IsFresh c (length s.log) new (record { part = node_box c side b lo hi; tag = number })
divide_done c s bar best log new store tie number side cites items b lo hi last fits tagged node asked g handled end cited e (at, grown) =
    let (steps, number_is, answer, fresh) = branch_done c s bar best log new store tie number side cites items b lo hi last fits node g handled end cited e (at, grown) in (
      subst (λ log. Grows c s (record { bar = bar; best = best; log = log; store = store })) (sym grown)
          (grows_add c s bar best log store (Branch b lo hi side cites) fits tagged g steps asked),
      number_is,
      answer,
      fresh,
    )

-- a record that was not written
pub unwritten_grows : (c : Choices) (s : State) (bar : ℕ) (best : Option (List ℕ)) (log new : List Record) (store : List Nogood) → new ≡ log
    → Grows c s (record { bar = bar; best = best; log = log; store = store }) → Grows c s (record { bar = bar; best = best; log = new; store = store })
unwritten_grows c s bar best log new store e g = subst (λ log. Grows c s (record { bar = bar; best = best; log = log; store = store })) (sym e) g

pub unkept_grows : (c : Choices) (s : State) (bar : ℕ) (best : Option (List ℕ)) (log : List Record) (store new : List Nogood) → new ≡ store
    → Grows c s (record { bar = bar; best = best; log = log; store = store }) → Grows c s (record { bar = bar; best = best; log = log; store = new })
unkept_grows c s bar best log store new e g = subst (λ store. Grows c s (record { bar = bar; best = best; log = log; store = store })) (sym e) g

-- a box that may have been stored
pub kept_done : (c : Choices) (s : State) (bar : ℕ) (best : Option (List ℕ)) (log : List Record) (store new : List Nogood) (tie : Bool) (number : ℕ) (box : List Literal)
    → Grows c s (record { bar = bar; best = best; log = log; store = store })
    → IsAnswered c s (record { bar = bar; best = best; log = log; store = store }) tie number box
    → IsFresh c (length s.log) log (record { part = box; tag = number }) → IsKept tie store new (record { part = box; tag = number })
    → Grows c s (record { bar = bar; best = best; log = log; store = new })
    × IsAnswered c s (record { bar = bar; best = best; log = log; store = new }) tie number box
kept_done c s bar best log store new tie number box g answer fresh kept = (
  elim kept [
    | inl e ↦ unkept_grows c s bar best log store new e g
    | inr some ↦ unkept_grows c s bar best log (store ++ record { part = box; tag = number } ∷ []) new some.1
        (grows_store c s bar best log store (record { part = box; tag = number }) g fresh
        (λ right. subst (λ tie. Settles c bar (relied tie best) box) some.0 (answer.settles right))
        (λ right. answer.clean right some.0))
  ],
  record { record_is = answer.record_is; at = answer.at; contains = answer.contains; settles = answer.settles; clean = answer.clean },
)

-- an answer for its record's own result shows it
pub shown_of : (c : Choices) (start s : State) (tie : Bool) (k : ℕ) (part box : List Literal) (r : Record) → slice_get s.log k ≡ Some r → result_of c r ≡ part → IsBox c part
    → IsAnswered c start s tie k part → Covers c part box → IsShown c start s tie k box
shown_of c start s tie k part box r at e is answer cover = record {
  record_is = r;
  at = at;
  contains = subst (λ part. Covers c part box) (sym e) cover;
  result_is = subst (IsBox c) (sym e) is;
  settles = subst (λ part. StoreSettles c start → Settles c s.bar (relied tie s.best) part) (sym e) answer.settles;
  clean = answer.clean;
}

-- the record of a box that a bound beats, once it is added
bound_shown : (c : Choices) (bar bar' : ℕ) (best : Option (List ℕ)) (log new : List Record) (store : List Nogood) (tie : Bool) (number : ℕ) (part : List Literal) (r : Record)
    → bar < 2 ^ 64 → bar' ≤ bar → IsStored c log store → IsBox c part → result_of c r ≡ part
    → ((t : Option (List ℕ)) → IsRival c bar' (relied tie best) t → IsStep c t log r) → IsAsked c (bar / 2 ^ 32) r
    → IsAnswered c (record { bar = bar; best = best; log = log; store = store }) (record { bar = bar'; best = best; log = log ++ r ∷ []; store = store }) tie (length log) part
    → IsWritten (Ok number) log new r
    → Grows c (record { bar = bar; best = best; log = log; store = store }) (record { bar = bar'; best = best; log = new; store = store })
    × (length new ≡ length log + 1) × (number + 1 ≡ length new)
    × IsShown c (record { bar = bar; best = best; log = log; store = store }) (record { bar = bar'; best = best; log = new; store = store }) tie number part
bound_shown c bar bar' best log new store tie number part r fits falls tagged is e steps asked answer (at, grown) =
    let start : State = record { bar = bar; best = best; log = log; store = store } in
    let n = length-append log (r ∷ []) in let m = ap length grown in (
      subst (λ log. Grows c start (record { bar = bar'; best = best; log = log; store = store })) (sym grown)
          (grows_add c start bar' best log store r fits tagged (grows_falls c bar bar' best log store fits falls)
          (λ t rival. steps t (rival_relied c tie bar' best t (omega arith) rival)) asked),
      omega arith,
      omega arith,
      subst (λ k. IsShown c start (record { bar = bar'; best = best; log = new; store = store }) tie k part) (sym at)
          (subst (λ new. IsShown c start (record { bar = bar'; best = best; log = new; store = store }) tie (length log) part) (sym grown)
          (shown_of c start (record { bar = bar'; best = best; log = log ++ r ∷ []; store = store }) tie (length log) part part r
          (get_last log r) e is answer (covers_self c part))),
    )

-- the record of a box that its fit beats
pub fit_shown : (c : Choices) (bar bar' seen : ℕ) (best : Option (List ℕ)) (log new : List Record) (store : List Nogood) (tie : Bool) (number : ℕ)
    (part : List Literal) (r : Option ℕ) → bar < 2 ^ 64 → bar' ≤ bar → seen ≡ bar' → IsStored c log store → IsBox c part → IsFit c part r
    → Beats c seen (relied tie best) part r → IsWritten (Ok number) log new (Fit part)
    → Grows c (record { bar = bar; best = best; log = log; store = store }) (record { bar = bar'; best = best; log = new; store = store })
    × (length new ≡ length log + 1) × (number + 1 ≡ length new)
    × IsShown c (record { bar = bar; best = best; log = log; store = store }) (record { bar = bar'; best = best; log = new; store = store }) tie number part
fit_shown c bar bar' seen best log new store tie number part r fits falls e tagged is fit beats written =
    let start : State = record { bar = bar; best = best; log = log; store = store } in
    let now : State = record { bar = bar'; best = best; log = log; store = store } in
    let (steps, answer) = fit_answers c start now tie part part r (omega arith) is fit
    (subst (λ bar. Beats c bar (relied tie best) part r) e beats) (covers_self c part) in
    bound_shown c bar bar' best log new store tie number part (Fit part) fits falls tagged is refl steps tt answer written

-- the record of a box that its energy beats
pub energy_shown : (c : Choices) (bar bar' seen : ℕ) (best : Option (List ℕ)) (log new : List Record) (store : List Nogood) (tie : Bool) (number from to : ℕ)
    (part : List Literal) (r : Option ℕ) → AreKnown c → bar < 2 ^ 64 → bar' ≤ bar → seen ≡ bar' → IsStored c log store → IsBox c part → from ≤ to → to < c.days
    → IsEnergy c from to part r → Beats c seen (relied tie best) part r → IsWritten (Ok number) log new (Energy from to part)
    → Grows c (record { bar = bar; best = best; log = log; store = store }) (record { bar = bar'; best = best; log = new; store = store })
    × (length new ≡ length log + 1) × (number + 1 ≡ length new)
    × IsShown c (record { bar = bar; best = best; log = log; store = store }) (record { bar = bar'; best = best; log = new; store = store }) tie number part
energy_shown c bar bar' seen best log new store tie number from to part r known fits falls e tagged is order day energy beats written =
    let start : State = record { bar = bar; best = best; log = log; store = store } in
    let now : State = record { bar = bar'; best = best; log = log; store = store } in
    let (steps, answer) = energy_answers c start now tie from to part part r (omega arith) (known.energy part from to) is order day energy
    (subst (λ bar. Beats c bar (relied tie best) part r) e beats) (covers_self c part) in
    bound_shown c bar bar' best log new store tie number part (Energy from to part) fits falls tagged is refl steps tt answer written

-- where a step of a search was ready, the next one is
pub ready_later : (c : Choices) (job : Job) (s s' : State) → IsReady c job s → Runs c job s s' → IsReady c job s'
ready_later c job s s' ready runs = record {
  known = ready.known;
  fits = (let f = ready.fits in let d = runs.grows.later.falls in omega arith);
  held = runs.held;
  inside = runs.inside;
  stored = stored_later c s s' runs.grows ready.stored;
}

pub runs_self : (c : Choices) (job : Job) (s : State) → IsReady c job s → Runs c job s s
runs_self c job s ready = record { grows = grows_self c s; held = ready.held; inside = ready.inside }

-- one step after another
pub runs_onto : (c : Choices) (job : Job) (s1 s2 s3 : State) → IsReady c job s1 → Runs c job s1 s2 → Runs c job s2 s3 → Runs c job s1 s3
runs_onto c job s1 s2 s3 ready one two = record { grows = grows_onto c s1 s2 s3 ready.fits one.grows two.grows; held = two.held; inside = two.inside }

-- the bar alone falls
pub runs_falls : (c : Choices) (job : Job) (bar bar' : ℕ) (best : Option (List ℕ)) (log : List Record) (store : List Nogood)
    → IsReady c job (record { bar = bar; best = best; log = log; store = store }) → bar' ≤ bar
    → Runs c job (record { bar = bar; best = best; log = log; store = store }) (record { bar = bar'; best = best; log = log; store = store })
runs_falls c job bar bar' best log store ready falls = record {
  grows = grows_falls c bar bar' best log store ready.fits falls;
  held = held_falls c bar bar' best falls ready.held;
  inside = ready.inside;
}

-- the bar falls, and then more is done
pub runs_after : (c : Choices) (job : Job) (bar bar' : ℕ) (best : Option (List ℕ)) (log : List Record) (store : List Nogood) (s : State)
    → IsReady c job (record { bar = bar; best = best; log = log; store = store }) → bar' ≤ bar
    → Runs c job (record { bar = bar'; best = best; log = log; store = store }) s → Runs c job (record { bar = bar; best = best; log = log; store = store }) s
runs_after c job bar bar' best log store s ready falls runs =
    runs_onto c job (record { bar = bar; best = best; log = log; store = store }) (record { bar = bar'; best = best; log = log; store = store }) s ready
    (runs_falls c job bar bar' best log store ready falls) runs

-- the bar falls and the log grows, and the best stays
pub runs_grown : (c : Choices) (job : Job) (bar bar' : ℕ) (best : Option (List ℕ)) (log log' : List Record) (store store' : List Nogood)
    → IsReady c job (record { bar = bar; best = best; log = log; store = store }) → bar' ≤ bar
    → Grows c (record { bar = bar; best = best; log = log; store = store }) (record { bar = bar'; best = best; log = log'; store = store' })
    → Runs c job (record { bar = bar; best = best; log = log; store = store }) (record { bar = bar'; best = best; log = log'; store = store' })
runs_grown c job bar bar' best log log' store store' ready falls grows = record {
  grows = grows;
  held = held_falls c bar bar' best falls ready.held;
  inside = ready.inside;
}

-- a record that was not written
pub runs_unwritten : (c : Choices) (job : Job) (bar bar' : ℕ) (best : Option (List ℕ)) (log new : List Record) (store : List Nogood)
    → IsReady c job (record { bar = bar; best = best; log = log; store = store }) → bar' ≤ bar → new ≡ log
    → Runs c job (record { bar = bar; best = best; log = log; store = store }) (record { bar = bar'; best = best; log = new; store = store })
runs_unwritten c job bar bar' best log new store ready falls e =
    runs_grown c job bar bar' best log new store store ready falls
    (unwritten_grows c (record { bar = bar; best = best; log = log; store = store }) bar' best log new store e (grows_falls c bar bar' best log store ready.fits falls))

-- a branch that was pushed
pub branch_written : (result : Result ℕ NoMemory) (old new : List Record) (range : Literal) (side : List Literal) (items list : List ℕ) (cites : List ℕ) → cites ≡ list
    → ((x : ℕ) → Contains list x ↔ Contains items x) → IfOk result (λ n. n ≡ length old)
    → IfOk result (λ _. new ≡ old ++ Branch range.block range.lo range.hi side cites ∷ []) → OnErr result (new ≡ old)
    → IsBranchWritten result old new range side items
branch_written (Ok k) old new range side items list cites e same number pushed kept = (list, number, subst (λ cites. new ≡ old ++ Branch range.block range.lo range.hi side cites ∷ []) e pushed, same)
branch_written (Err x) old new range side items list cites e same number pushed kept = kept

-- a plan was taken
pub runs_later : (c : Choices) (job : Job) (bar bar' : ℕ) (best best' : Option (List ℕ)) (log : List Record) (store : List Nogood)
    → IsReady c job (record { bar = bar; best = best; log = log; store = store }) → IsLater c bar best bar' best' → IsHeld c bar' best' → IsInside c job best'
    → Runs c job (record { bar = bar; best = best; log = log; store = store }) (record { bar = bar'; best = best'; log = log; store = store })
runs_later c job bar bar' best best' log store ready later held inside = record {
  grows = grows_later c bar bar' best best' log store ready.fits later;
  held = held;
  inside = inside;
}

-- citing nothing
pub cited_empty : (c : Choices) (start s : State) (tie : Bool) (cites : List ℕ) → cites ≡ [] → AreCited c start s tie cites
cited_empty c start s tie cites e = subst (AreCited c start s tie) (sym e) (cited_none c start s tie)

-- the side with a code that clashes with none of its codes and meets no piece is an open box
pub child_of : (c : Choices) (job : Job) (side : List Literal) (b code : ℕ) (l : Literal) (child : List Literal) → AreKnown c → IsNode c job side b code (code + 1)
    → (Clashes c side b code → ⊥) → (MeetsSome c b code → ⊥) → l ≡ exact b code → child ≡ with_literal side l → IsOpenBox c job child
child_of c job side b code l child known node none free e f =
    subst (IsOpenBox c job) (sym (f ∙ ap (with_literal side) e)) (child_open c job side b code (code + 1) code known node (omega arith) (omega arith) none free)

pub match_none : {T : Type 0} (o : Option T) (A : Type 0) (F : T → Type 0) → MatchOption o A F → o ≡ None → A
match_none None A F h e = h
match_none (Some x) A F h e = absurd (none-some x (sym e))
