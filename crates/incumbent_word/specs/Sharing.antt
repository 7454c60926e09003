-- What a capsule promises to whoever takes it.
use Rattle.std.specs.Prelude.{◌≡◌, ℕ, ◌+◌, ◌-◌, ◌^◌, ◌<◌, ◌⊎◌, List, length, slice_get, Contains, Option, Some}
use Rattle.shape_exact.specs.Yards.{PlainYard}
use Rattle.plan_rule.specs.Choices.{Choices}
use Rattle.plan_rule.specs.Plans.{IsFeasible}
use Rattle.plan_rule.specs.Paths.{key, IsWithin}
use Rattle.plan_rule.specs.Boxes.{Holds}
use Rattle.plan_rule.specs.Yards.{choices}
use Rattle.refutation_log.specs.declared.record.Record.{Record}
use Rattle.refutation_log.specs.Steps.{result_of}
use Rattle.refutation_log.specs.Logs.{AreSteps, PlainCapsule}

-- each record is a step against every answer within the bar
abbrev pub AreStepsUpTo : Choices → ℕ → List Record → Type 0
AreStepsUpTo c bar log = (t : Option (List ℕ)) → IsWithin c t bar → AreSteps c t log

-- each feasible plan in the last record's result has a key above the bar
abbrev pub IsClearUpTo : Choices → ℕ → List Record → Type 0
IsClearUpTo c bar log =
    (i : ℕ) (r : Record) → i + 1 ≡ length log → slice_get log i ≡ Some r
    → (q : List ℕ) → IsFeasible c q → Holds (result_of c r) q → bar < key c q

-- a capsule that may be shared among those who plan the yard
pub record IsShareable (yard : PlainYard) (capsule : PlainCapsule) : Type 0 where
  pub steps : AreStepsUpTo (choices yard) capsule.bar capsule.log
  pub clear : IsClearUpTo (choices yard) capsule.bar capsule.log

-- a capsule that a seat which has seen these keys may post
pub record IsPostable (yard : PlainYard) (seen : List ℕ) (capsule : PlainCapsule) : Type 0 where
  pub shareable : IsShareable yard capsule
  -- its bar was seen, or is the greatest u64
  pub bar : Contains seen capsule.bar ⊎ (capsule.bar ≡ 2 ^ 64 - 1)
