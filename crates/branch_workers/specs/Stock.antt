-- What a worker's store promises for its next search.
use Rattle.std.specs.Prelude.{◌+◌, ◌++◌, ◌∷◌, ◌⊎◌, length, ◌≡◌, ℕ, ◌<◌, ◌≤◌, ◌^◌, List, [], Some, None, slice_get, All}
use Rattle.plan_rule.specs.Boxes.{AreAmong}
use Rattle.plan_rule.specs.Choices.{Choices, count}
use Rattle.refutation_log.specs.declared.record.Record.{Record}
use Rattle.refutation_log.specs.declared.record.Record.TheVariants.{Branch, Fit, Energy}
use Rattle.refutation_log.specs.Logs.{PlainCapsule, appended}
use Rattle.refutation_log.specs.Steps.{result_of}
use Rattle.nogood_store.specs.declared.nogood.Nogood.{Nogood}
use Rattle.branch_core.specs.Proper.{AreProper}
use Rattle.nogood_store.specs.Hits.{PlainStore}
use Rattle.branch_kernel.specs.Clean.{IsClean}
use Rattle.branch_kernel.specs.Rivals.{Settles}
use Rattle.branch_kernel.specs.Stored.{IsStored}

-- no code is entered, each tag is the number of a record whose result contains its box; and at each bar that is not above
-- a key that was seen, the plans of each box have keys above the bar, and its record, followed down, rests on the bar alone
pub record IsStocked (c : Choices) (log : List Record) (store : PlainStore) (seen : List ℕ) : Type 0 where
  pub depth : store.prefix ≡ []
  pub stored : IsStored c log store.nogoods
  pub settles : (n : ℕ) → All (λ k. n ≤ k) seen → All (λ e. Settles c n None e.part) store.nogoods
  pub clean : (n : ℕ) → n < 2 ^ 64 → All (λ k. n ≤ k) seen → All (λ e. IsClean c n log e.tag) store.nogoods

-- a record that may be posted with this bar: each feasible plan of its result has a key above the bar, and the record,
-- followed down, rests on the bar alone
pub record IsPostable (c : Choices) (bar : ℕ) (log : List Record) (tag : ℕ) : Type 0 where
  pub record_is : Record
  pub at : slice_get log tag ≡ Some record_is
  pub settles : Settles c bar None (result_of c record_is)
  pub clean : IsClean c bar log tag

-- the record's range is a range, or all codes of the block
abbrev pub IsNamed : Choices → Record → Type 0
IsNamed c (Branch b lo hi side cites) = (lo < hi) ⊎ ((lo ≡ 0) × (hi ≡ count c b))
IsNamed c (Fit side) = Unit {0}
IsNamed c (Energy from to side) = Unit {0}

-- the log has a last record, whose box may be stored
pub record IsStorable (c : Choices) (log : List Record) : Type 0 where
  pub some : 0 < length log
  pub last : (i : ℕ) (r : Record) → i + 1 ≡ length log → slice_get log i ≡ Some r → IsNamed c r × AreAmong 32 (result_of c r)

-- the store is as it was, or has gained the box of the last record
abbrev pub IsLastKept : Choices → List Record → List Nogood → List Nogood → Type 0
IsLastKept c log old new = (new ≡ old) ⊎ ((r : Record) × (n : ℕ) × (n + 1 ≡ length log) × (slice_get log n ≡ Some r)
    × (new ≡ old ++ record { part = result_of c r; tag = n } ∷ []))

-- the capsule's records are appended, and the box of the last one may be stored
pub record IsImported (c : Choices) (old new : List Record) (before after : PlainStore) (capsule : PlainCapsule) : Type 0 where
  pub some : 1 ≤ length capsule.log
  pub whole : new ≡ appended old capsule.log
  pub proper : AreProper c (length old) new
  pub prefix : after.prefix ≡ before.prefix
  pub kept : IsLastKept c new before.nogoods after.nogoods
