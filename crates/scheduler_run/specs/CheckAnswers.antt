-- What `check` says of a yard, a plan and a log.
use Rattle.std.specs.Prelude.{◌≡◌, ℕ, List, [], ◌∷◌, ◌++◌, Option, None, IfSome, Result, Ok, Err, codes}
use Rattle.shape_exact.specs.Yards.{PlainYard}
use Rattle.yard_file.specs.Reads.{yard_of}
use Rattle.yard_file.specs.Lines.{line}
use Rattle.yard_file.specs.declared.fault.YardFault.{YardFault}
use Rattle.plan_rule.specs.Plans.{IsBest}
use Rattle.plan_rule.specs.Yards.{choices}
use Rattle.plan_text.specs.Faults as plans
use Rattle.plan_text.specs.Reading.{plan_of}
use Rattle.plan_text.specs.Texts.{plan_text}
use Rattle.plan_text.specs.declared.fault.PlanFault.{PlanFault}
use Rattle.refutation_log.specs.Reading as logs
use Rattle.refutation_log.specs.declared.fault.LogFault.{LogFault}
use Rattle.refutation_log.specs.declared.record.Record.{Record}
use Rattle.log_checker.specs.Lines.{refused_line}
use Rattle.log_checker.specs.Verdicts.{IsVerdict}
use Rattle.log_checker.specs.declared.verdict.Verdict.{Verdict}
use Rattle.log_checker.specs.declared.verdict.Verdict.TheVariants.{Accepted, Refused}
use Rattle.scheduler_run.specs.Outcomes.{Outcome}
use Rattle.scheduler_run.specs.Refusals.{IsRefusal}

-- `certified` is said with status 0, or the line of the refusal with status 7
abbrev pub SaysVerdict : Verdict → Outcome → Type 0
SaysVerdict Accepted outcome = (outcome.status ≡ 0) × (outcome.made ≡ None) × (outcome.said ≡ codes "certified" ++ 10 ∷ [])
SaysVerdict (Refused refused) outcome = (outcome.status ≡ 7) × (outcome.made ≡ None) × (outcome.said ≡ refused_line refused)

-- the checker's verdict on the log, for a plan of the yard or for none, is said
pub record Judges (yard : PlainYard) (plan : Option (List ℕ)) (log : List Record) (outcome : Outcome) : Type 0 where
  pub verdict : Verdict
  pub is_verdict : IsVerdict (choices yard) plan log verdict
  pub said : SaysVerdict verdict outcome

-- the answer to what the bytes of a log spell: the first refusal, or the verdict
abbrev pub ChecksLog : PlainYard → Option (List ℕ) → Result (List Record) LogFault → Outcome → Type 0
ChecksLog yard plan (Err fault) outcome = IsRefusal (logs.fault_line fault) outcome
ChecksLog yard plan (Ok log) outcome = Judges yard plan log outcome

-- the answer to what the bytes of a plan spell: the first refusal, or that to the bytes of the log
abbrev pub ChecksPlan : PlainYard → Result (Option (List ℕ)) PlanFault → List ℕ → Outcome → Type 0
ChecksPlan yard (Err fault) log outcome = IsRefusal (plans.fault_line fault) outcome
ChecksPlan yard (Ok plan) log outcome = ChecksLog yard plan (logs.log_of log) outcome

-- the answer to what the bytes of a yard spell: the first refusal, or that to the bytes of the plan and the log
abbrev pub ChecksYard : Result PlainYard YardFault → List ℕ → List ℕ → Outcome → Type 0
ChecksYard (Err fault) plan log outcome = IsRefusal (line fault) outcome
ChecksYard (Ok yard) plan log outcome = ChecksPlan yard (plan_of yard plan) log outcome

-- the answer to the bytes of three files: those that they have, where the desk tells them, and else some bytes
pub record ChecksFiles (yard plan log : Option (List ℕ)) (outcome : Outcome) : Type 0 where
  pub yard_bytes : List ℕ
  pub yard_told : IfSome yard (λ its. yard_bytes ≡ its)
  pub plan_bytes : List ℕ
  pub plan_told : IfSome plan (λ its. plan_bytes ≡ its)
  pub log_bytes : List ℕ
  pub log_told : IfSome log (λ its. log_bytes ≡ its)
  pub answer : ChecksYard (yard_of yard_bytes) plan_bytes log_bytes outcome

-- the bytes are the text of the best plan of the yard that was read, or of none where no plan of it is feasible
pub record IsBestText (read : Result PlainYard YardFault) (plan : List ℕ) : Type 0 where
  pub yard : PlainYard
  pub is_yard : read ≡ Ok yard
  pub best : Option (List ℕ)
  pub is_best : IsBest (choices yard) best
  pub is_text : plan ≡ plan_text yard best

-- where the desk tells the bytes of both files, those of the plan are the text of the best plan of the yard that those
-- of the yard spell, or of none where no plan of it is feasible
abbrev pub HaveBest : Option (List ℕ) → Option (List ℕ) → Type 0
HaveBest yard plan = IfSome yard (λ yard_bytes. IfSome plan (IsBestText (yard_of yard_bytes)))
