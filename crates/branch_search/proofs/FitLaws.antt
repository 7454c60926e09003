-- Boxes whose fit was asked: low, or beaten with some of their literals.
use Rattle.std.proofs.Common.{◌≡◌, ℕ, ◌+◌, ◌≤◌, List, [], ◌∷◌, Option, Some, None, Bool, true, refl, sym, ap, subst, arith, length}
use Rattle.std.specs.Prelude.{◌<◌, Ok, All, Contains, slice_get}
use Rattle.std.proofs.lemmas.List.Elements.{All-weaker}
use Rattle.common_lists.proofs.ListLaws.{get_last}
use Rattle.plan_rule.specs.declared.literal.Literal.{Literal}
use Rattle.plan_rule.specs.declared.job.Job.{Job}
use Rattle.plan_rule.specs.Choices.{Choices, blocks}
use Rattle.plan_rule.specs.Boxes.{AreAmong, IsBox}
use Rattle.plan_rule.specs.Bounds.{IsFit, IsAtMost}
use Rattle.refutation_log.specs.declared.record.Record.{Record}
use Rattle.refutation_log.specs.declared.record.Record.TheVariants.{Fit}
use Rattle.nogood_store.specs.declared.nogood.Nogood.{Nogood}
use Rattle.branch_kernel.specs.Rivals.{Beats}
use Rattle.branch_kernel.specs.States.{State, relied}
use Rattle.branch_kernel.specs.Boxes.{IsClear, kept}
use Rattle.branch_kernel.specs.Unbeaten.{IsAskedSide}
use Rattle.branch_kernel.specs.Growth.{IsReady, Runs}
use Rattle.branch_kernel.specs.Shows.{IsShown}
use Rattle.branch_kernel.specs.Written.{IsWritten}
use Rattle.branch_kernel.specs.Stored.{IsFresh, IsKept}
use Rattle.branch_kernel.proofs.CoverLaws.{exist-box}
use Rattle.branch_kernel.proofs.WithLaws.{rises_from}
use Rattle.branch_kernel.proofs.DropLaws.{answered_of, kept_box, kept_fit, kept_inside}
use Rattle.branch_kernel.proofs.SplitLaws.{shown_inside}
use Rattle.branch_kernel.proofs.NodeLaws.{fit_shown, kept_done, runs_grown}
use Rattle.branch_search.specs.Fits.{HasLowFit}

-- what a fit that is at most the total says
pub low_fit : (c : Choices) (part : List Literal) (r : Option ℕ) (total : ℕ) → IsFit c part r → IsAtMost r total → HasLowFit c part total
low_fit c part None total fit low = absurd low
low_fit c part (Some k) total fit low = (k, fit, low)

-- no fit of what is kept of some literals is above the total, where the box's own fit is not
pub asked_low : (c : Choices) (part side : List Literal) (more : ℕ → Bool) (low total : ℕ) → IsBox c part → IsClear c part → HasLowFit c part low → low ≤ total
    → side ≡ kept more part → IsAskedSide c side total
asked_low c part side more low total is clear (k, fit, small) l e =
    subst (λ side. IsAskedSide c side total) (sym e)
    (λ keep r fit'. lower r (kept_fit c keep more part k r (rises_from part is.ascending) clear fit fit'))
  where
    lower : (r : Option ℕ) → IsAtMost r k → IsAtMost r total
    lower None m = m
    lower (Some j) m = omega arith

-- keeping all blocks keeps the box
kept_each : (part : List Literal) → kept (λ b. true) part ≡ part
kept_each [] = refl
kept_each (l ∷ part) = ap (λ rest. l ∷ rest) (kept_each part)

pub asked_own : (c : Choices) (part : List Literal) (total : ℕ) → IsBox c part → IsClear c part → HasLowFit c part total → IsAskedSide c part total
asked_own c part total is clear low = asked_low c part part (λ b. true) total total is clear low (omega arith) (sym (kept_each part))

-- what is kept of a box, where its fit beats it
pub short_beaten : (c : Choices) (bar : ℕ) (best : Option (List ℕ)) (part side : List Literal) (keep : ℕ → Bool) (tie : Bool) (r : Option ℕ) → side ≡ kept keep part → IsBox c part
    → IsFit c side r → Beats c bar (relied tie best) side r
    → IsBox c side × All (Contains part) side × ((r : Option ℕ) × IsFit c side r × Beats c bar (relied tie best) side r)
short_beaten c bar best part side keep tie r e is fit beats = (
  subst (IsBox c) (sym e) (kept_box c keep part is),
  subst (All (Contains part)) (sym e) (kept_inside keep part),
  (r, fit, beats),
)

-- the box itself, where its fit beats it
pub whole_beaten : (c : Choices) (bar : ℕ) (best : Option (List ℕ)) (part side : List Literal) (tie : Bool) (r : Option ℕ) → side ≡ part → IsBox c part
    → IsFit c part r → Beats c bar (relied tie best) part r
    → IsBox c side × All (Contains part) side × ((r : Option ℕ) × IsFit c side r × Beats c bar (relied tie best) side r)
whole_beaten c bar best part side tie r e is fit beats =
    short_beaten c bar best part side (λ b. true) tie r (subst (λ s. s ≡ kept (λ b. true) part) (sym e) (sym (kept_each part))) is
    (subst (λ s. IsFit c s r) (sym e) fit) (subst (λ s. Beats c bar (relied tie best) s r) (sym e) beats)

-- the record that is written is a new one, and its result is the side
fit_fresh : (c : Choices) (log new : List Record) (number : ℕ) (side : List Literal) → IsBox c side → IsWritten (Ok number) log new (Fit side)
    → IsFresh c (length log) new (record { part = side; tag = number })
fit_fresh c log new number side is (at, grown) = record {
  record_is = Fit side;
  new = omega arith;
  at = subst (λ k. slice_get new k ≡ Some (Fit side)) (sym at) (subst (λ new. slice_get new (length log) ≡ Some (Fit side)) (sym grown) (get_last log (Fit side)));
  result = refl;
  part_is = is;
}

-- a box of literals is on the first 32 blocks
pub side_among : (c : Choices) (job : Job) (s : State) (side : List Literal) → IsReady c job s → IsBox c side → AreAmong 32 side
side_among c job s side ready is = All-weaker (λ l. l.block < blocks c) (λ l. l.block < 32) (λ l b. let few = ready.known.few in omega arith) side (exist-box c side is)

-- the record of some literals of a box, which their fit beats, shows the box, and their box may be stored
pub fitted_shown : (c : Choices) (job : Job) (bar bar' seen : ℕ) (best : Option (List ℕ)) (log new : List Record) (store store' : List Nogood) (tie : Bool) (number : ℕ) (part side : List Literal)
    → IsReady c job (record { bar = bar; best = best; log = log; store = store }) → bar' ≤ bar → seen ≡ bar'
    → IsBox c side × All (Contains part) side × ((r : Option ℕ) × IsFit c side r × Beats c seen (relied tie best) side r)
    → IsWritten (Ok number) log new (Fit side) → IsKept tie store store' (record { part = side; tag = number })
    → Runs c job (record { bar = bar; best = best; log = log; store = store }) (record { bar = bar'; best = best; log = new; store = store' })
    × (number + 1 ≡ length new)
    × IsShown c (record { bar = bar; best = best; log = log; store = store }) (record { bar = bar'; best = best; log = new; store = store' }) tie number part
fitted_shown c job bar bar' seen best log new store store' tie number part side ready falls e (is, inside, (r, fit, beats)) written kept =
    let start : State = record { bar = bar; best = best; log = log; store = store } in
    let now : State = record { bar = bar'; best = best; log = new; store = store } in
    let (grows, one, last, shown) = fit_shown c bar bar' seen best log new store tie number side r ready.fits falls e ready.stored is fit beats written in
    let (more, answer) = kept_done c start bar' best new store store' tie number side grows (answered_of c start now tie number side shown) (fit_fresh c log new number side is written) kept in (
      runs_grown c job bar bar' best log new store store' ready falls more,
      last,
      shown_inside c start (record { bar = bar'; best = best; log = new; store = store' }) tie number side part inside (record {
        record_is = shown.record_is;
        at = shown.at;
        contains = shown.contains;
        result_is = shown.result_is;
        settles = shown.settles;
        clean = shown.clean;
      }),
    )
