-- The usage line is the answer exactly to words that are no command, and no answer makes another file than its command names.
use Rattle.std.proofs.Common.{◌≡◌, ◌≢◌, ℕ, List, Option, Some, None, Result, Ok, Err, ◌↔◌, ◌⊎◌, inl, inr, refl, sym, ap, subst, ◌∙◌}
use Rattle.shape_exact.specs.Yards.{PlainYard}
use Rattle.yard_io.specs.Desk.{Files}
use Rattle.yard_file.specs.Reads.{yard_of}
use Rattle.yard_generator.specs.Yards.{drawn_yard}
use Rattle.yard_file.specs.declared.fault.YardFault.{YardFault}
use Rattle.plan_text.specs.Reading.{plan_of}
use Rattle.plan_text.specs.declared.fault.PlanFault.{PlanFault}
use Rattle.refutation_log.specs.Reading.{log_of}
use Rattle.refutation_log.specs.declared.fault.LogFault.{LogFault}
use Rattle.refutation_log.specs.declared.record.Record.{Record}
use Rattle.log_checker.specs.declared.verdict.Verdict.{Verdict}
use Rattle.log_checker.specs.declared.verdict.Verdict.TheVariants.{Accepted, Refused}
use Rattle.scheduler_run.specs.Words.{Asked, AsksPlan, AsksCheck, AsksGen, AsksLoad, asked}
use Rattle.scheduler_run.specs.Outcomes.{Text, Outcome, KeepsBut}
use Rattle.scheduler_run.specs.PlanAnswers.{AnswersYard, status_of}
use Rattle.scheduler_run.specs.LoadAnswers.{SumsUp}
use Rattle.scheduler_run.specs.CheckAnswers.{ChecksYard, ChecksPlan, ChecksLog, SaysVerdict}
use Rattle.scheduler_run.specs.Answers.{AnswersAsked, Answers, KeepsOthers, made_by}

-- an outcome that makes no file, or the one with this name, and does not end with status 2
record IsOf (name : Option (List ℕ)) (outcome : Outcome) : Type 0 where
  made : (outcome.made ≡ None) ⊎ ((text : Text) × (outcome.made ≡ Some text) × (name ≡ Some text.name))
  status : outcome.status ≢ 2

-- an outcome that makes no file and ends with another status than 2
unmade : (name : Option (List ℕ)) (outcome : Outcome) (status : ℕ) → outcome.status ≡ status → outcome.made ≡ None → status ≢ 2 → IsOf name outcome
unmade name outcome status is none differs = record { made = inl none; status = λ two. differs (sym is ∙ two) }

plan_status : (best : Option (List ℕ)) (status : ℕ) → status ≡ status_of best → status ≢ 2
plan_status None status is two = let wrong : 3 ≡ 2 = sym is ∙ two in cc
plan_status (Some plan) status is two = let wrong : 0 ≡ 2 = sym is ∙ two in cc

yard_is : (read : Result PlainYard YardFault) (log : List ℕ) (outcome : Outcome) → AnswersYard read log outcome → IsOf (Some log) outcome
yard_is (Err fault) log outcome answer = unmade (Some log) outcome 1 answer.0 answer.1 (λ (wrong : 1 ≡ 2). cc)
yard_is (Ok yard) log outcome answer =
    record { made = inr (_, answer.made_is, refl); status = plan_status answer.best outcome.status answer.status_is }

verdict_is : (v : Verdict) (outcome : Outcome) → SaysVerdict v outcome → IsOf None outcome
verdict_is Accepted outcome said = unmade None outcome 0 said.0 said.1 (λ (wrong : 0 ≡ 2). cc)
verdict_is (Refused refused) outcome said = unmade None outcome 7 said.0 said.1 (λ (wrong : 7 ≡ 2). cc)

log_is : (yard : PlainYard) (plan : Option (List ℕ)) (read : Result (List Record) LogFault) (outcome : Outcome)
    → ChecksLog yard plan read outcome → IsOf None outcome
log_is yard plan (Err fault) outcome answer = unmade None outcome 1 answer.0 answer.1 (λ (wrong : 1 ≡ 2). cc)
log_is yard plan (Ok log) outcome answer = verdict_is answer.verdict outcome answer.said

plan_is : (yard : PlainYard) (read : Result (Option (List ℕ)) PlanFault) (log : List ℕ) (outcome : Outcome)
    → ChecksPlan yard read log outcome → IsOf None outcome
plan_is yard (Err fault) log outcome answer = unmade None outcome 1 answer.0 answer.1 (λ (wrong : 1 ≡ 2). cc)
plan_is yard (Ok plan) log outcome answer = log_is yard plan (log_of log) outcome answer

checked_is : (read : Result PlainYard YardFault) (plan log : List ℕ) (outcome : Outcome)
    → ChecksYard read plan log outcome → IsOf None outcome
checked_is (Err fault) plan log outcome answer = unmade None outcome 1 answer.0 answer.1 (λ (wrong : 1 ≡ 2). cc)
checked_is (Ok yard) plan log outcome answer = plan_is yard (plan_of yard plan) log outcome answer

loaded_is : (seed number : ℕ) (yard : PlainYard) (outcome : Outcome) → SumsUp seed number yard outcome → IsOf None outcome
loaded_is seed number yard outcome answer =
    record { made = inl answer.made_is; status = plan_status answer.best outcome.status answer.status_is }

command_is : (what : Asked) (file : Files) (outcome : Outcome) → AnswersAsked (Some what) file outcome → IsOf (made_by (Some what)) outcome
command_is (AsksPlan yard log workers split) file outcome answer = yard_is (yard_of answer.bytes) log outcome answer.answer
command_is (AsksCheck yard plan log) file outcome answer =
    checked_is (yard_of answer.yard_bytes) answer.plan_bytes answer.log_bytes outcome answer.answer
command_is (AsksGen seed blocks) file outcome answer = unmade None outcome 0 answer.0 answer.1 (λ (wrong : 0 ≡ 2). cc)
command_is (AsksLoad seed blocks workers) file outcome answer =
    loaded_is seed blocks (drawn_yard seed blocks) outcome answer

asked_status : (what : Option Asked) (file : Files) (outcome : Outcome) → AnswersAsked what file outcome
    → (outcome.status ≡ 2) ↔ (what ≡ None)
asked_status None file outcome answer = (λ two. refl, λ none. answer.0)
asked_status (Some what) file outcome answer = (λ two. absurd ((command_is what file outcome answer).status two), λ none. cc)

-- status 2 goes with words that are no command, and with them alone
pub usage_status : (words : List (List ℕ)) (file : Files) (outcome : Outcome) → Answers words file outcome
    → (outcome.status ≡ 2) ↔ (asked words ≡ None)
usage_status words file outcome answer = asked_status (asked words) file outcome answer

kept : (name : Option (List ℕ)) (outcome : Outcome) (old new : Files) → IsOf name outcome → KeepsBut outcome.made old new
    → (k : List ℕ) → name ≢ Some k → new k ≡ old k
kept name outcome old new is keeps k differ = elim (is.made) [
  | inl none ↦ subst (λ made. KeepsBut made old new) none keeps k tt
  | inr it ↦ subst (λ made. KeepsBut made old new) it.1 keeps k (λ same. differ (it.2 ∙ ap Some same))
]

asked_keeps : (what : Option Asked) (file : Files) (outcome : Outcome) (old new : Files) → AnswersAsked what file outcome
    → KeepsBut outcome.made old new → (k : List ℕ) → made_by what ≢ Some k → new k ≡ old k
asked_keeps None file outcome old new answer keeps k differ = subst (λ made. KeepsBut made old new) answer.1 keeps k tt
asked_keeps (Some what) file outcome old new answer keeps k differ =
    kept (made_by (Some what)) outcome old new (command_is what file outcome answer) keeps k differ

-- a run that changes no file but the one that its answer makes keeps all others than its words name
pub keeps_others : (words : List (List ℕ)) (file : Files) (outcome : Outcome) (old new : Files) → Answers words file outcome
    → KeepsBut outcome.made old new → KeepsOthers words old new
keeps_others words file outcome old new answer keeps = asked_keeps (asked words) file outcome old new answer keeps
