-- A log has a verdict, and where it is refused it is not accepted.
use Rattle.std.proofs.Common.{◌≡◌, ℕ, ◌<◌, List, Option, Some, None, length, refl, sym, ◌∙◌, subst, arith}
use Rattle.std.specs.Prelude.{slice_get, take, All, ◌↔◌, Result, Ok, Err, IfOk}
use Rattle.std.proofs.lemmas.List.Elements.{All-contains, All-nil}
use Rattle.std.proofs.lemmas.Option.{same_Some, slice_get_within, get_or_from_slice_get}
use Rattle.plan_rule.specs.Choices.{Choices, blocks}
use Rattle.plan_rule.specs.Plans.{IsBest, IsFeasible}
use Rattle.plan_rule.specs.Pieces.{IsFirstMeeting}
use Rattle.plan_rule.specs.Yards.{choices}
use Rattle.shape_exact.specs.Yards.{PlainYard, IsYard}
use Rattle.shape_exact.specs.declared.memory.NoMemory.{NoMemory}
use Rattle.refutation_log.proofs.AcceptedLaws.{accepted_of_yard}
use Rattle.plan_rule.specs.Pairs.{IsFirstPair}
use Rattle.plan_rule.specs.Bounds.{MayFit, Refutes}
use Rattle.plan_rule.proofs.UniqueLaws.{bound_unique, energy_unique}
use Rattle.refutation_log.specs.declared.record.Record.{Record}
use Rattle.refutation_log.specs.declared.record.Record.TheVariants.{Branch, Fit, Energy}
use Rattle.refutation_log.specs.Logs.{cites_of}
use Rattle.refutation_log.specs.Steps.{IsAccepted, IsStep}
use Rattle.log_checker.specs.declared.verdict.Refused.{Refused}
use Rattle.log_checker.specs.declared.verdict.Refused.TheVariants.{PlanNotFeasible, BadCite, Uncovered, BoundLow, NotEmpty, BadForm, PlanMeetsFixed}
use Rattle.log_checker.specs.declared.verdict.Verdict.{Verdict}
use Rattle.log_checker.specs.declared.verdict.Verdict.TheVariants as verdict
use Rattle.log_checker.specs.Verdicts.{HasLowBound, IsFault, IsFirstFault, IsRefusal, IsVerdict, LeavesCode}
use Rattle.log_checker.proofs.StepLaws.{step_form}

-- a step cites earlier records alone
step_cites : (c : Choices) (t : Option (List ℕ)) (earlier : List Record) (r : Record) → IsStep c t earlier r → All (λ k. k < length earlier) (cites_of r)
step_cites c t earlier (Branch b lo hi side cites) s = s.earlier_only
step_cites c t earlier (Fit side) s = All-nil (λ k. k < length earlier)
step_cites c t earlier (Energy from to side) s = All-nil (λ k. k < length earlier)

-- a step leaves no code
step_covers : (c : Choices) (t : Option (List ℕ)) (earlier : List Record) (r : Record) (code : ℕ) → LeavesCode c t earlier r code → IsStep c t earlier r → ⊥
step_covers c t earlier (Branch b lo hi side cites) code u s = u.here (s.covered code u.from u.below)
step_covers c t earlier (Fit side) code u s = u
step_covers c t earlier (Energy from to side) code u s = u

-- a step has no bound that is too low
step_bound : (c : Choices) (t : Option (List ℕ)) (earlier : List Record) (r : Record) (n : ℕ) → HasLowBound c t r n → IsStep c t earlier r → ⊥
step_bound c t earlier (Branch b lo hi side cites) n low s = low
step_bound c t earlier (Fit side) n (is, weak) (box, (k, fit, strong)) =
    weak (subst (Refutes c t side) (bound_unique (MayFit c side) c.cost (blocks c) k (Some n) fit is) strong)
step_bound c t earlier (Energy from to side) n (is, weak) (box, first, last, (k, energy, strong)) =
    weak (subst (Refutes c t side) (energy_unique c from to side k (Some n) energy is) strong)

-- a number of a list that has a property of all
at_all : (P : ℕ → Type 0) (xs : List ℕ) (k x : ℕ) → All P xs → slice_get xs k ≡ Some x → P x
at_all P xs k x all at = All-contains P xs x all (k, slice_get_within xs k x at, get_or_from_slice_get xs k x x at)

-- a record with a fault is no step
pub fault_no_step : (c : Choices) (t : Option (List ℕ)) (earlier : List Record) (r : Record) (refused : Refused)
    → IsFault c t earlier r refused → IsStep c t earlier r → ⊥
fault_no_step c t earlier r (PlanNotFeasible a b) f s = f
fault_no_step c t earlier r (BadCite step cite) (at, form, first) s =
    let low = at_all (λ k. k < length earlier) (cites_of r) first.place cite (step_cites c t earlier r s) first.at in
    let high = first.here in
    absurd (omega arith)
fault_no_step c t earlier r (Uncovered step code) (at, form, early, leaves) s = step_covers c t earlier r code leaves s
fault_no_step c t earlier r (BoundLow step n) (at, form, low) s = step_bound c t earlier r n low s
fault_no_step c t earlier r NotEmpty f s = f
fault_no_step c t earlier r (PlanMeetsFixed b i) f s = f
fault_no_step c t earlier r (BadForm step) (at, bad) s = bad (step_form c t earlier r s)

-- a log with a first fault is not accepted
first_fault_not_accepted : (c : Choices) (t : Option (List ℕ)) (log : List Record) (refused : Refused) → IsFirstFault c t log refused → IsAccepted c t log → ⊥
first_fault_not_accepted c t log refused first accepted =
    let (r, at, step) = accepted.steps first.number (slice_get_within log first.number first.entry first.at) in
    fault_no_step c t (take first.number log) first.entry refused first.here
    (subst (λ r. IsStep c t (take first.number log) r) (same_Some r first.entry (sym at ∙ first.at)) step)

-- a plan with a clash is not feasible
pair_not_answer : (c : Choices) (t : Option (List ℕ)) (a b : ℕ) (p : List ℕ) → IsFirstPair c p a b → IsFeasible c p → ⊥
pair_not_answer c t a b p pair feasible =
    let second = pair.second in
    let less = second.later in
    feasible.clear a b (let m = second.block in omega arith) second.block (λ e. absurd (omega arith)) second.clash

-- a plan that meets a piece is not feasible
meeting_not_answer : (c : Choices) (p : List ℕ) (b i : ℕ) → IsFirstMeeting c p b i → IsFeasible c p → ⊥
meeting_not_answer c p b i first feasible = feasible.unmet b first.block (i, first.piece.meets)

-- a refused log is not accepted
pub refusal_not_accepted : (c : Choices) (t : Option (List ℕ)) (log : List Record) (refused : Refused) → IsRefusal c t log refused → IsAccepted c t log → ⊥
refusal_not_accepted c None log (PlanNotFeasible a b) h accepted = h
refusal_not_accepted c (Some p) log (PlanNotFeasible a b) h accepted = pair_not_answer c (Some p) a b p h accepted.answer
refusal_not_accepted c None log (PlanMeetsFixed b i) h accepted = h
refusal_not_accepted c (Some p) log (PlanMeetsFixed b i) h accepted = meeting_not_answer c p b i h.1 accepted.answer
refusal_not_accepted c t log NotEmpty (answer, steps, full) accepted = full accepted.last
refusal_not_accepted c t log (BadCite step cite) (answer, first) accepted = first_fault_not_accepted c t log (BadCite step cite) first accepted
refusal_not_accepted c t log (Uncovered step code) (answer, first) accepted = first_fault_not_accepted c t log (Uncovered step code) first accepted
refusal_not_accepted c t log (BoundLow step n) (answer, first) accepted = first_fault_not_accepted c t log (BoundLow step n) first accepted
refusal_not_accepted c t log (BadForm step) (answer, first) accepted = first_fault_not_accepted c t log (BadForm step) first accepted

-- a verdict is that of acceptance exactly where the log is accepted
pub verdict_decides : (c : Choices) (t : Option (List ℕ)) (log : List Record) (v : Verdict) → IsVerdict c t log v → (v ≡ verdict.Accepted) ↔ IsAccepted c t log
verdict_decides c t log verdict.Accepted h = (λ e. h, λ a. refl)
verdict_decides c t log (verdict.Refused refused) h = (
  λ e. absurd (accepted-refused refused (sym e)),
  λ a. absurd (refusal_not_accepted c t log refused h a),
)
  where
    is_accepted : Verdict → Type 0
    is_accepted verdict.Accepted = Unit {0}
    is_accepted (verdict.Refused r) = ⊥

    accepted-refused : (r : Refused) → verdict.Accepted ≡ verdict.Refused r → ⊥
    accepted-refused r e = subst is_accepted e (tt {0})

-- a call that answers the verdict answers Accepted exactly where the log is accepted
pub answer_decides : (c : Choices) (t : Option (List ℕ)) (log : List Record) (o : Result Verdict NoMemory)
    → IfOk o (IsVerdict c t log) → IfOk o (λ v. (v ≡ verdict.Accepted) ↔ IsAccepted c t log)
answer_decides c t log (Ok v) h = verdict_decides c t log v h
answer_decides c t log (Err e) h = h

-- and then the plan is the best
pub answer_best : (yard : PlainYard) (t : Option (List ℕ)) (log : List Record) (o : Result Verdict NoMemory) → IsYard yard
    → IfOk o (IsVerdict (choices yard) t log) → IfOk o (λ v. v ≡ verdict.Accepted → IsBest (choices yard) t)
answer_best yard t log (Ok v) is h = λ e. accepted_of_yard yard t log is ((verdict_decides (choices yard) t log v h).0 e)
answer_best yard t log (Err e) is h = h
