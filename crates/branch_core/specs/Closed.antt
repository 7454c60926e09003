-- Logs that end with the empty box.
use Rattle.std.specs.Prelude.{◌≡◌, ℕ, ◌+◌, List, [], Option, Some, length, slice_get}
use Rattle.plan_rule.specs.Choices.{Choices}
use Rattle.refutation_log.specs.declared.record.Record.{Record}
use Rattle.refutation_log.specs.Logs.{AreSteps}
use Rattle.refutation_log.specs.Steps.{result_of}

-- where the records were steps the new ones are, and the last one refutes every plan
pub record IsClosedOff (c : Choices) (old new : List Record) : Type 0 where
  pub steps : (t : Option (List ℕ)) → AreSteps c t old → AreSteps c t new
  pub last : (i : ℕ) × (r : Record) × (i + 1 ≡ length new) × (slice_get new i ≡ Some r) × (result_of c r ≡ [])
