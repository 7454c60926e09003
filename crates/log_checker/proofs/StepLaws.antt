-- What the steps before a record show of it.
use Rattle.std.proofs.Common.{◌≡◌, ℕ, ◌+◌, ◌<◌, ◌≤◌, List, Option, Some, None, length, get_or, refl, sym, ◌∙◌, subst, inl, inr, arith}
use Rattle.std.specs.Prelude.{slice_get, take, All, MatchOption}
use Rattle.std.proofs.lemmas.Bool.{cases_lt}
use Rattle.std.proofs.lemmas.Option.{same_Some, slice_get-get_or}
use Rattle.std.proofs.lemmas.List.{get_or-take, length-take-le}
use Rattle.plan_rule.specs.Choices.{Choices}
use Rattle.plan_rule.specs.declared.literal.Literal.{Literal}
use Rattle.refutation_log.specs.declared.record.Record.{Record}
use Rattle.refutation_log.specs.declared.record.Record.TheVariants.{Branch, Fit, Energy}
use Rattle.refutation_log.specs.Steps.{IsStep, IsStepAt, IsCovered}
use Rattle.log_checker.specs.Forms.{HasForm}
use Rattle.log_checker.specs.Verdicts.{AreStepsBefore}

-- a step has the form of one
pub step_form : (c : Choices) (t : Option (List ℕ)) (earlier : List Record) (r : Record) → IsStep c t earlier r → HasForm c r
step_form c t earlier (Branch b lo hi side cites) s = (s.side_is, s.block, s.free, s.range)
step_form c t earlier (Fit side) s = s.0
step_form c t earlier (Energy from to side) s = (s.0, s.1, s.2)

-- a branch of this form, whose citations are earlier and whose codes are covered, is a step
pub branch_step : (c : Choices) (t : Option (List ℕ)) (earlier : List Record) (b lo hi : ℕ) (side : List Literal) (cites : List ℕ)
    → HasForm c (Branch b lo hi side cites) → All (λ k. k < length earlier) cites
    → ((code : ℕ) → lo ≤ code → code < hi → IsCovered c t earlier side cites b code) → IsStep c t earlier (Branch b lo hi side cites)
branch_step c t earlier b lo hi side cites (box, exist, free, range) early covered =
    record { side_is = box; block = exist; free = free; range = range; earlier_only = early; covered = covered }

-- the records before a number have the form of one where they are steps
pub forms_before : (c : Choices) (t : Option (List ℕ)) (log : List Record) (n : ℕ) → AreStepsBefore c t log n → (i : ℕ) (r : Record) → i < n
    → slice_get log i ≡ Some r → HasForm c r
forms_before c t log n steps i r less at =
    let (s, is, step) = steps i less in
    step_form c t (take i log) r (subst (λ r. IsStep c t (take i log) r) (same_Some s r (sym is ∙ at)) step)

-- where there is none, what is said of none holds
pub none_of : {X : Type 0} (o : Option X) (A : Type 0) (B : X → Type 0) → ((x : X) → o ≡ Some x → ⊥) → MatchOption o A B → A
none_of None A B not h = h
none_of (Some x) A B not h = absurd (not x refl)

-- one step more
pub steps_more : (c : Choices) (t : Option (List ℕ)) (log : List Record) (n : ℕ) (r : Record) → AreStepsBefore c t log n → slice_get log n ≡ Some r
    → IsStep c t (take n log) r → AreStepsBefore c t log (n + 1)
steps_more c t log n r steps at step i less = elim (cases_lt i n) [
  | inl below ↦ steps i below
  | inr last ↦ let e : n ≡ i = omega arith in subst (λ i. IsStepAt c t log i) e (r, at, step)
]

-- the records taken before a number have the form of one where they are steps
pub forms_taken : (c : Choices) (t : Option (List ℕ)) (log : List Record) (n : ℕ) → n ≤ length log → AreStepsBefore c t log n → All (HasForm c) (take n log)
forms_taken c t log n within steps k d less =
    let e = length-take-le n log within in
    let below : k < n = omega arith in
    subst (HasForm c) (sym (get_or-take n log k d below))
    (forms_before c t log n steps k (get_or log k d) below (slice_get-get_or log k d (omega arith)))
