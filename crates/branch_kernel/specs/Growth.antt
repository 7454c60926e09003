-- How the state of a search may grow: the bar falls, the best improves, the log gains steps, the store gains boxes.
use Rattle.std.specs.Prelude.{◌≡◌, ℕ, ◌+◌, ◌/◌, ◌^◌, ◌<◌, ◌≤◌, ◌++◌, List, Some, length, slice_get, All}
use Rattle.plan_rule.specs.declared.job.Job.{Job}
use Rattle.plan_rule.specs.Choices.{Choices}
use Rattle.refutation_log.specs.declared.record.Record.{Record}
use Rattle.nogood_store.specs.declared.nogood.Nogood.{Nogood}
use Rattle.branch_kernel.specs.Rivals.{IsGood, IsLater}
use Rattle.branch_kernel.specs.States.{State, IsHeld, IsInside}
use Rattle.branch_kernel.specs.Known.{AreKnown}
use Rattle.branch_kernel.specs.Clean.{StoreSettles, StoreIsClean}
use Rattle.branch_kernel.specs.Stored.{IsStored, IsFresh}
use Rattle.branch_kernel.specs.Unbeaten.{IsAsked}

-- what a step of a search does to the state: every new record is a step against each rival, and every new branch was asked
pub record Grows (c : Choices) (old new : State) : Type 0 where
  pub later : IsLater c old.bar old.best new.bar new.best
  pub more : (added : List Record) × (new.log ≡ old.log ++ added)
  pub good : (i : ℕ) → length old.log ≤ i → i < length new.log → IsGood c new.bar new.best new.log i
  pub asked : (i : ℕ) (r : Record) → length old.log ≤ i → slice_get new.log i ≡ Some r → IsAsked c (old.bar / 2 ^ 32) r
  pub stored : (added : List Nogood) × (new.store ≡ old.store ++ added) × All (IsFresh c (length old.log) new.log) added
  pub settles : StoreSettles c old → StoreSettles c new
  pub clean : StoreIsClean c old → StoreIsClean c new

-- what a whole search does to the state: as Grows, but the last record may be a branch that was not asked
pub record Ends (c : Choices) (old new : State) : Type 0 where
  pub later : IsLater c old.bar old.best new.bar new.best
  pub more : (added : List Record) × (new.log ≡ old.log ++ added)
  pub good : (i : ℕ) → length old.log ≤ i → i < length new.log → IsGood c new.bar new.best new.log i
  pub asked : (i : ℕ) (r : Record) → length old.log ≤ i → i + 1 < length new.log → slice_get new.log i ≡ Some r
      → IsAsked c (old.bar / 2 ^ 32) r
  pub stored : (added : List Nogood) × (new.store ≡ old.store ++ added) × All (IsFresh c (length old.log) new.log) added
  pub settles : StoreSettles c old → StoreSettles c new
  pub clean : StoreIsClean c old → StoreIsClean c new

-- what a step of a search finds: the bar and the best belong together, and so do the log and the store
pub record IsReady (c : Choices) (job : Job) (s : State) : Type 0 where
  pub known : AreKnown c
  pub fits : s.bar < 2 ^ 64
  pub held : IsHeld c s.bar s.best
  pub inside : IsInside c job s.best
  pub stored : IsStored c s.log s.store

-- what a step of a search does
pub record Runs (c : Choices) (job : Job) (old new : State) : Type 0 where
  pub grows : Grows c old new
  pub held : IsHeld c new.bar new.best
  pub inside : IsInside c job new.best
