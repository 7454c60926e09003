-- Boxes of records in a store.
use Rattle.std.specs.Prelude.{◌≡◌, ℕ, ◌≤◌, ◌⊎◌, ◌++◌, Bool, false, List, [], ◌∷◌, Some, slice_get, All, Any}
use Rattle.plan_rule.specs.declared.literal.Literal.{Literal}
use Rattle.plan_rule.specs.Choices.{Choices}
use Rattle.plan_rule.specs.Boxes.{Covers, IsBox}
use Rattle.refutation_log.specs.declared.record.Record.{Record}
use Rattle.refutation_log.specs.Steps.{result_of}
use Rattle.nogood_store.specs.declared.nogood.Nogood.{Nogood}

-- the tag is the number of a record whose result contains the box
pub record IsTagged (c : Choices) (log : List Record) (e : Nogood) : Type 0 where
  pub record_is : Record
  pub at : slice_get log e.tag ≡ Some record_is
  pub contains : Covers c (result_of c record_is) e.part
  pub result_is : IsBox c (result_of c record_is)
  pub part_is : IsBox c e.part

-- each tag is the number of a record whose result contains its box
abbrev pub IsStored : Choices → List Record → List Nogood → Type 0
IsStored c log store = All (IsTagged c log) store

-- the tag is the number of a new record whose result is the box
pub record IsFresh (c : Choices) (old : ℕ) (log : List Record) (e : Nogood) : Type 0 where
  pub record_is : Record
  pub new : old ≤ e.tag
  pub at : slice_get log e.tag ≡ Some record_is
  pub result : result_of c record_is ≡ e.part
  pub part_is : IsBox c e.part

-- the tag of a stored box that contains the box
abbrev pub IsBoxHit : Choices → List Nogood → List Literal → ℕ → Type 0
IsBoxHit c store box tag = Any (λ e. (e.tag ≡ tag) × Covers c e.part box) store

-- the box is added, where no tie was used; or the store is as it was
abbrev pub IsKept : Bool → List Nogood → List Nogood → Nogood → Type 0
IsKept tie old new e = (new ≡ old) ⊎ ((tie ≡ false) × (new ≡ old ++ e ∷ []))
