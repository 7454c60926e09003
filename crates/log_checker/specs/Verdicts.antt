-- What a checker says of a log: that it is accepted, or the first reason why it is not.
use Rattle.std.specs.Prelude.{◌≡◌, ℕ, ◌+◌, ◌<◌, ◌≤◌, List, [], Option, Some, None, MatchOption, length, slice_get, take}
use Rattle.plan_rule.specs.declared.literal.Literal.{Literal}
use Rattle.plan_rule.specs.Choices.{Choices}
use Rattle.plan_rule.specs.Plans.{IsAnswer, HasNoClash}
use Rattle.plan_rule.specs.Pieces.{IsFirstMeeting}
use Rattle.plan_rule.specs.Pairs.{IsFirstPair}
use Rattle.plan_rule.specs.Bounds.{IsFit, IsEnergy, Refutes}
use Rattle.refutation_log.specs.declared.record.Record.{Record}
use Rattle.refutation_log.specs.declared.record.Record.TheVariants.{Branch, Fit, Energy}
use Rattle.refutation_log.specs.Logs.{cites_of}
use Rattle.refutation_log.specs.Steps.{IsAccepted, IsCovered, IsStep, IsStepAt, result_of}
use Rattle.log_checker.specs.declared.verdict.Refused.{Refused}
use Rattle.log_checker.specs.declared.verdict.Refused.TheVariants.{PlanNotFeasible, BadCite, Uncovered, BoundLow, NotEmpty, BadForm, PlanMeetsFixed}
use Rattle.log_checker.specs.declared.verdict.Verdict.{Verdict}
use Rattle.log_checker.specs.declared.verdict.Verdict.TheVariants as verdict
use Rattle.log_checker.specs.Forms.{CitesBelow, HasForm}

-- the first element of a list that has a property
pub record IsFirst {X : Type 0} (P : X → Type 0) (xs : List X) (x : X) : Type 0 where
  pub place : ℕ
  pub at : slice_get xs place ≡ Some x
  pub before : (k : ℕ) (y : X) → k < place → slice_get xs k ≡ Some y → P y → ⊥
  pub here : P x

-- the first code of a branch that nothing covers
pub record IsFirstUncovered
    (c : Choices) (t : Option (List ℕ)) (earlier : List Record) (b lo hi : ℕ) (side : List Literal) (cites : List ℕ)
    (code : ℕ) : Type 0 where
  pub from : lo ≤ code
  pub below : code < hi
  pub before : (k : ℕ) → lo ≤ k → k < code → IsCovered c t earlier side cites b k
  pub here : IsCovered c t earlier side cites b code → ⊥

-- the code is the first of the record's codes that nothing covers
abbrev pub LeavesCode : Choices → Option (List ℕ) → List Record → Record → ℕ → Type 0
LeavesCode c t earlier (Branch b lo hi side cites) code = IsFirstUncovered c t earlier b lo hi side cites code
LeavesCode c t earlier (Fit side) code = ⊥
LeavesCode c t earlier (Energy from to side) code = ⊥

-- the number is the record's bound, and does not refute its side
abbrev pub HasLowBound : Choices → Option (List ℕ) → Record → ℕ → Type 0
HasLowBound c t (Branch b lo hi side cites) n = ⊥
HasLowBound c t (Fit side) n = IsFit c side (Some n) × (Refutes c t side (Some n) → ⊥)
HasLowBound c t (Energy from to side) n = IsEnergy c from to side (Some n) × (Refutes c t side (Some n) → ⊥)

-- of none: the bound refutes the side; of a number: it is the bound, and does not
abbrev pub TellsRefuted : Choices → Option (List ℕ) → List Literal → Option ℕ → Option ℕ → Type 0
TellsRefuted c t side bound found =
    MatchOption found (Refutes c t side bound) (λ n. (bound ≡ Some n) × (Refutes c t side (Some n) → ⊥))

-- of a bound that is none: it refutes the side; of a number: it is the bound, and does not
abbrev pub TellsBound : (Option ℕ → Type 0) → Choices → Option (List ℕ) → List Literal → Option ℕ → Type 0
TellsBound IsBound c t side found =
    MatchOption found ((k : Option ℕ) × IsBound k × Refutes c t side k) (λ n. IsBound (Some n) × (Refutes c t side (Some n) → ⊥))

-- of no code: each of the branch is covered; of a code: it is the first that nothing covers
abbrev pub TellsCovered : Choices → Option (List ℕ) → List Record → ℕ → ℕ → ℕ → List Literal → List ℕ → Option ℕ → Type 0
TellsCovered c t earlier b lo hi side cites found =
    MatchOption found ((code : ℕ) → lo ≤ code → code < hi → IsCovered c t earlier side cites b code)
    (IsFirstUncovered c t earlier b lo hi side cites)

-- why a record is no step after the earlier ones: first its form, then its citations, then what it should show
abbrev pub IsFault : Choices → Option (List ℕ) → List Record → Record → Refused → Type 0
IsFault c t earlier r (PlanNotFeasible a b) = ⊥
IsFault c t earlier r (BadCite step cite) =
    (step ≡ length earlier) × HasForm c r × IsFirst (λ k. step ≤ k) (cites_of r) cite
IsFault c t earlier r (Uncovered step code) =
    (step ≡ length earlier) × HasForm c r × CitesBelow step r × LeavesCode c t earlier r code
IsFault c t earlier r (BoundLow step bound) = (step ≡ length earlier) × HasForm c r × HasLowBound c t r bound
IsFault c t earlier r NotEmpty = ⊥
IsFault c t earlier r (PlanMeetsFixed b i) = ⊥
IsFault c t earlier r (BadForm step) = (step ≡ length earlier) × (HasForm c r → ⊥)

-- of none: the record is a step after the earlier ones; else why it is not
abbrev pub TellsStep : Choices → Option (List ℕ) → List Record → Record → Option Refused → Type 0
TellsStep c t earlier r found = MatchOption found (IsStep c t earlier r) (IsFault c t earlier r)

-- the plan's first pair of blocks that clash
abbrev pub HasClash : Choices → Option (List ℕ) → ℕ → ℕ → Type 0
HasClash c None a b = ⊥
HasClash c (Some p) a b = IsFirstPair c p a b

-- the records before this number are steps
abbrev pub AreStepsBefore : Choices → Option (List ℕ) → List Record → ℕ → Type 0
AreStepsBefore c t log n = (i : ℕ) → i < n → IsStepAt c t log i

-- some record is the last one, and refutes every plan
abbrev pub EndsEmpty : Choices → List Record → Type 0
EndsEmpty c log = (i : ℕ) × (r : Record) × (i + 1 ≡ length log) × (slice_get log i ≡ Some r) × (result_of c r ≡ [])

-- the fault of the first record that is no step
pub record IsFirstFault (c : Choices) (t : Option (List ℕ)) (log : List Record) (refused : Refused) : Type 0 where
  pub number : ℕ
  pub entry : Record
  pub at : slice_get log number ≡ Some entry
  pub before : AreStepsBefore c t log number
  pub here : IsFault c t (take number log) entry refused

-- of none: each record is a step; else why the first that is none is not
abbrev pub TellsSteps : Choices → Option (List ℕ) → List Record → Option Refused → Type 0
TellsSteps c t log found = MatchOption found (AreStepsBefore c t log (length log)) (IsFirstFault c t log)

-- no two of the plan's codes clash, and the first block and its first piece such that the block's code meets the piece
abbrev pub HasMeeting : Choices → Option (List ℕ) → ℕ → ℕ → Type 0
HasMeeting c None b i = ⊥
HasMeeting c (Some p) b i = HasNoClash c p × IsFirstMeeting c p b i

-- the first reason to refuse a log: a clash in the plan, then a meeting of the plan with a fixed piece, then the first
-- record that is no step, then that the last one does not refute every plan
abbrev pub IsRefusal : Choices → Option (List ℕ) → List Record → Refused → Type 0
IsRefusal c t log (PlanNotFeasible a b) = HasClash c t a b
IsRefusal c t log (PlanMeetsFixed b i) = HasMeeting c t b i
IsRefusal c t log NotEmpty = IsAnswer c t × AreStepsBefore c t log (length log) × (EndsEmpty c log → ⊥)
IsRefusal c t log (BadCite step cite) = IsAnswer c t × IsFirstFault c t log (BadCite step cite)
IsRefusal c t log (Uncovered step code) = IsAnswer c t × IsFirstFault c t log (Uncovered step code)
IsRefusal c t log (BoundLow step bound) = IsAnswer c t × IsFirstFault c t log (BoundLow step bound)
IsRefusal c t log (BadForm step) = IsAnswer c t × IsFirstFault c t log (BadForm step)

-- accepted, or refused for its first reason
abbrev pub IsVerdict : Choices → Option (List ℕ) → List Record → Verdict → Type 0
IsVerdict c t log verdict.Accepted = IsAccepted c t log
IsVerdict c t log (verdict.Refused refused) = IsRefusal c t log refused

-- whatever the log, this is the first reason to refuse it
abbrev pub RefusesAll : Choices → Option (List ℕ) → Refused → Type 0
RefusesAll c t refused = (log : List Record) → IsRefusal c t log refused
