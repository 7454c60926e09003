-- Which records are steps, what they show, and which logs are accepted.
use Rattle.std.specs.Prelude.{◌≡◌, ℕ, ◌+◌, ◌<◌, ◌≤◌, List, [], Option, Some, None, ◌⊎◌, length, slice_get, take, All, Contains, if◌then◌else◌, ◌==◌, ◌&&◌}
use Rattle.plan_rule.specs.declared.literal.Literal.{Literal}
use Rattle.plan_rule.specs.Choices.{Choices, MeetsSome, blocks, count}
use Rattle.plan_rule.specs.Plans.{IsAnswer}
use Rattle.plan_rule.specs.Boxes.{IsBox, LeavesFree, HasExact, Covers, exact, with_literal}
use Rattle.plan_rule.specs.Bounds.{IsBase, IsFit, IsEnergy, Refutes}
use Rattle.refutation_log.specs.declared.record.Record.{Record}
use Rattle.refutation_log.specs.declared.record.Record.TheVariants.{Branch, Fit, Energy}

-- the box that a record refutes
abbrev pub result_of : Choices → Record → List Literal
result_of c (Branch b lo hi side cites) =
    if (lo == 0) && (hi == count c b) then side else with_literal side (record { block = b; lo = lo; hi = hi })
result_of c (Fit side) = side
result_of c (Energy from to side) = side

-- a record among the earlier ones, whose number is cited, covers the box
abbrev pub IsCited : Choices → List Record → List ℕ → List Literal → Type 0
IsCited c earlier cites box =
    (k : ℕ) × (r : Record) × Contains cites k × (slice_get earlier k ≡ Some r) × Covers c (result_of c r) box

-- the code clashes with a code that the side fixes; or it meets a fixed piece; or the base refutes the side with this code; or a citation covers it
abbrev pub IsCovered : Choices → Option (List ℕ) → List Record → List Literal → List ℕ → ℕ → ℕ → Type 0
IsCovered c t earlier side cites b code =
    ((a : ℕ) × (d : ℕ) × HasExact side a d × c.Clash a d b code)
    ⊎ MeetsSome c b code
    ⊎ ((k : Option ℕ) × IsBase c (with_literal side (exact b code)) k × Refutes c t (with_literal side (exact b code)) k)
    ⊎ IsCited c earlier cites (with_literal side (exact b code))

-- the range of a branch: some codes of the block, or none where it has none
abbrev pub IsRange : Choices → ℕ → ℕ → ℕ → Type 0
IsRange c b lo hi = ((lo < hi) × (hi ≤ count c b)) ⊎ ((lo ≡ 0) × (hi ≡ 0) × (count c b ≡ 0))

-- a branch over a range of a block's codes, each of which is covered, beside a side that leaves the block free
pub record IsBranch (c : Choices) (t : Option (List ℕ)) (earlier : List Record) (b lo hi : ℕ) (side : List Literal) (cites : List ℕ) : Type 0 where
  pub side_is : IsBox c side
  pub block : b < blocks c
  pub free : LeavesFree side b
  pub range : IsRange c b lo hi
  pub earlier_only : All (λ k. k < length earlier) cites
  pub covered : (code : ℕ) → lo ≤ code → code < hi → IsCovered c t earlier side cites b code

-- the record is a step against t, after the earlier records
abbrev pub IsStep : Choices → Option (List ℕ) → List Record → Record → Type 0
IsStep c t earlier (Branch b lo hi side cites) = IsBranch c t earlier b lo hi side cites
IsStep c t earlier (Fit side) = IsBox c side × ((k : Option ℕ) × IsFit c side k × Refutes c t side k)
IsStep c t earlier (Energy from to side) =
    IsBox c side × (from ≤ to) × (to < c.days) × ((k : Option ℕ) × IsEnergy c from to side k × Refutes c t side k)

-- the record with this number is a step
abbrev pub IsStepAt : Choices → Option (List ℕ) → List Record → ℕ → Type 0
IsStepAt c t log i = (r : Record) × (slice_get log i ≡ Some r) × IsStep c t (take i log) r

-- the answer may stand, each record is a step, and the last refutes every plan
pub record IsAccepted (c : Choices) (t : Option (List ℕ)) (log : List Record) : Type 0 where
  pub answer : IsAnswer c t
  pub steps : (i : ℕ) → i < length log → IsStepAt c t log i
  pub last : (i : ℕ) × (r : Record) × (i + 1 ≡ length log) × (slice_get log i ≡ Some r) × (result_of c r ≡ [])
