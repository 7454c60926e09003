-- Logs appended to one another, and what a capsule may hold.
use Rattle.std.specs.Prelude.{◌≡◌, ℕ, ◌+◌, ◌<◌, ◌≤◌, List, [], ◌++◌, All, length, map, sum_by, slice_get, Option, Some}
use Rattle.shape_exact.specs.Yards.{PlainYard}
use Rattle.plan_rule.specs.Choices.{Choices}
use Rattle.plan_rule.specs.Yards.{choices}
use Rattle.refutation_log.specs.declared.record.Record.{Record}
use Rattle.refutation_log.specs.declared.record.Record.TheVariants.{Branch, Fit, Energy}
use Rattle.refutation_log.specs.Steps.{IsStepAt}

-- the numbers that a record cites
abbrev pub cites_of : Record → List ℕ
cites_of (Branch b lo hi side cites) = cites
cites_of (Fit side) = []
cites_of (Energy from to side) = []

-- each record cites earlier records alone
abbrev pub CiteEarlier : List Record → Type 0
CiteEarlier log = (i : ℕ) (r : Record) → slice_get log i ≡ Some r → All (λ k. k < i) (cites_of r)

-- the record with its citations raised
abbrev pub raised : ℕ → Record → Record
raised n (Branch b lo hi side cites) = Branch b lo hi side (map (λ k. k + n) cites)
raised n (Fit side) = Fit side
raised n (Energy from to side) = Energy from to side

-- the log with another one after it, whose citations are raised by the log's length
abbrev pub appended : List Record → List Record → List Record
appended log other = log ++ map (raised (length log)) other

-- each record is a step
abbrev pub AreSteps : Choices → Option (List ℕ) → List Record → Type 0
AreSteps c t log = (i : ℕ) → i < length log → IsStepAt c t log i

-- in every yard and against every answer, where each record of both logs is a step, so is each record of the whole
abbrev pub KeepsSteps : List Record → List Record → List Record → Type 0
KeepsSteps log other whole =
    (yard : PlainYard) (t : Option (List ℕ)) → AreSteps (choices yard) t log → AreSteps (choices yard) t other → AreSteps (choices yard) t whole

-- how many citations the log has in all
abbrev pub citations : List Record → ℕ
citations log = sum_by (λ r. length (cites_of r)) log

-- a log that a capsule may hold: 1 to 64 records, and at most 1,024 citations in all
pub record IsSmall (log : List Record) : Type 0 where
  pub some : 1 ≤ length log
  pub records : length log ≤ 64
  pub citations : citations log ≤ 1024

-- a capsule as contracts see it
pub record PlainCapsule : Type 0 where
  pub bar : ℕ
  pub log : List Record
