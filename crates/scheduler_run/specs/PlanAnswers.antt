-- What `plan` makes and says of a yard.
use Rattle.std.specs.Prelude.{◌≡◌, ℕ, List, Option, Some, None, IfSome, Result, Ok, Err}
use Rattle.shape_exact.specs.Yards.{PlainYard}
use Rattle.yard_file.specs.Reads.{yard_of}
use Rattle.yard_file.specs.Lines.{line}
use Rattle.yard_file.specs.declared.fault.YardFault.{YardFault}
use Rattle.plan_rule.specs.Plans.{IsBest}
use Rattle.plan_rule.specs.Yards.{choices}
use Rattle.plan_text.specs.Texts.{plan_text}
use Rattle.refutation_log.specs.declared.record.Record.{Record}
use Rattle.refutation_log.specs.Spelling.{HaveText, log_text}
use Rattle.refutation_log.specs.Steps.{IsAccepted}
use Rattle.scheduler_run.specs.Outcomes.{Outcome}
use Rattle.scheduler_run.specs.Refusals.{IsRefusal}

-- 0 for a plan and 3 for none
abbrev pub status_of : Option (List ℕ) → ℕ
status_of (Some plan) = 0
status_of None = 3

-- the text of the yard's best plan is said with status 0, or that no plan is feasible with status 3; and the file of this
-- name is made of the text of a log that is accepted for it, and reads as that log
pub record PlansYard (yard : PlainYard) (log : List ℕ) (outcome : Outcome) : Type 0 where
  pub best : Option (List ℕ)
  pub is_best : IsBest (choices yard) best
  pub records : List Record
  pub accepted : IsAccepted (choices yard) best records
  pub has_text : HaveText records
  pub status_is : outcome.status ≡ status_of best
  pub made_is : outcome.made ≡ Some (record { name = log; bytes = log_text records })
  pub said_is : outcome.said ≡ plan_text yard best

-- the answer to what the bytes of a yard's file spell: the first refusal, or the yard's plan and its log
abbrev pub AnswersYard : Result PlainYard YardFault → List ℕ → Outcome → Type 0
AnswersYard (Err fault) log outcome = IsRefusal (line fault) outcome
AnswersYard (Ok yard) log outcome = PlansYard yard log outcome

-- the answer to the bytes of a file: those that it has, where the desk tells them, and else some bytes, of which nothing is said
pub record AnswersFile (file : Option (List ℕ)) (log : List ℕ) (outcome : Outcome) : Type 0 where
  pub bytes : List ℕ
  pub told : IfSome file (λ its. bytes ≡ its)
  pub answer : AnswersYard (yard_of bytes) log outcome
