-- Records that rest on the bar alone.
use Rattle.std.specs.Prelude.{◌≡◌, ℕ, zero, suc, ◌<◌, List, Some, None, slice_get, All, Contains}
use Rattle.plan_rule.specs.Choices.{Choices}
use Rattle.refutation_log.specs.declared.record.Record.{Record}
use Rattle.refutation_log.specs.Logs.{cites_of}
use Rattle.branch_kernel.specs.Rivals.{Settles, IsGood}
use Rattle.branch_kernel.specs.States.{State}

-- from one record n citations lead down to another
abbrev pub Leads : List Record → ℕ → ℕ → ℕ → Type 0
Leads log zero k i = k ≡ i
Leads log (suc n) k i = (r : Record) × (j : ℕ) × (slice_get log k ≡ Some r) × Contains (cites_of r) j × (j < k) × Leads log n j i

-- the record, and each that it cites, followed down, is a step against every answer within the bar
abbrev pub IsClean : Choices → ℕ → List Record → ℕ → Type 0
IsClean c bar log k = (n i : ℕ) → Leads log n k i → IsGood c bar None log i

-- each feasible plan of a stored box has a key above the bar
abbrev pub StoreSettles : Choices → State → Type 0
StoreSettles c s = All (λ e. Settles c s.bar None e.part) s.store

-- each stored box's record, followed down, is clean
abbrev pub StoreIsClean : Choices → State → Type 0
StoreIsClean c s = All (λ e. IsClean c s.bar s.log e.tag) s.store
