-- What a run makes and says, with which status, and when it is cut short.
use Rattle.std.specs.Prelude.{◌≡◌, ◌≢◌, ℕ, Bool, List, ◌⊎◌, Option, Some, None}
use Rattle.yard_io.specs.Desk.{Files, Same}
use Rattle.scheduler_run.specs.Words.{Asked, AsksPlan, AsksCheck, AsksGen, AsksLoad, asked}
use Rattle.scheduler_run.specs.Outcomes.{Outcome, Wrote, WroteFront}
use Rattle.scheduler_run.specs.Refusals.{IsUsage}
use Rattle.scheduler_run.specs.PlanAnswers.{AnswersFile}
use Rattle.scheduler_run.specs.CheckAnswers.{ChecksFiles, HaveBest}
use Rattle.scheduler_run.specs.GenAnswers.{SaysYard}
use Rattle.scheduler_run.specs.LoadAnswers.{LoadsDrawn}

-- the answer to what is asked for: a command is answered by its files and numbers, and other words by the usage line
abbrev pub AnswersAsked : Option Asked → Files → Outcome → Type 0
AnswersAsked None file outcome = IsUsage outcome
AnswersAsked (Some (AsksPlan yard log workers split)) file outcome = AnswersFile (file yard) log outcome
AnswersAsked (Some (AsksCheck yard plan log)) file outcome = ChecksFiles (file yard) (file plan) (file log) outcome
AnswersAsked (Some (AsksGen seed blocks)) file outcome = SaysYard seed blocks outcome
AnswersAsked (Some (AsksLoad seed blocks workers)) file outcome = LoadsDrawn seed blocks outcome

-- the answer to the words
abbrev pub Answers : List (List ℕ) → Files → Outcome → Type 0
Answers words file outcome = AnswersAsked (asked words) file outcome

-- the file that a command makes
abbrev pub made_by : Option Asked → Option (List ℕ)
made_by (Some (AsksPlan yard log workers split)) = Some log
made_by _ = None

-- each file but the one that the words make is as it was
abbrev pub KeepsOthers : List (List ℕ) → Files → Files → Type 0
KeepsOthers words old new = (name : List ℕ) → made_by (asked words) ≢ Some name → new name ≡ old name

-- what status 0 alone shows of the files of what is asked for: after `check YARD PLAN LOG` that PLAN has the best plan of YARD
abbrev pub ShowsAsked : Option Asked → Files → Type 0
ShowsAsked (Some (AsksCheck yard plan log)) file = HaveBest (file yard) (file plan)
ShowsAsked _ file = Unit {0}

-- what status 0 alone shows
abbrev pub Shows : List (List ℕ) → Files → Type 0
Shows words file = ShowsAsked (asked words) file

-- the status is none of 4, 5 and 6
pub record IsAnswered (status : ℕ) : Type 0 where
  pub reads : status ≢ 4
  pub writes : status ≢ 5
  pub memory : status ≢ 6

-- the status is that of a fault of writing or of want of memory
abbrev pub IsCutShort : ℕ → Type 0
IsCutShort status = (status ≡ 5) ⊎ (status ≡ 6)

-- an answer with this status was written whole: its file was made, and then all was said
pub record GivesAnswer
    (words : List (List ℕ)) (tells : Bool) (status : ℕ)
    (old_file new_file : Files) (old_said new_said : Option (List ℕ)) : Type 0 where
  pub outcome : Outcome
  pub answer : Answers words old_file outcome
  pub status_is : status ≡ outcome.status
  pub wrote : Wrote tells outcome old_file new_file old_said new_said

-- a front of an answer was written, in the order of its file and what it says
pub record IsFront
    (words : List (List ℕ)) (tells : Bool)
    (old_file new_file : Files) (old_said new_said : Option (List ℕ)) : Type 0 where
  pub outcome : Outcome
  pub answer : Answers words old_file outcome
  pub wrote : WroteFront tells outcome old_file new_file old_said new_said

-- nothing was written, or a front of an answer
abbrev pub GivesFront : List (List ℕ) → Bool → Files → Files → Option (List ℕ) → Option (List ℕ) → Type 0
GivesFront words tells old_file new_file old_said new_said =
    Same old_file old_said new_file new_said ⊎ IsFront words tells old_file new_file old_said new_said
