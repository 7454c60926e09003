-- Records that are written, or not for want of memory.
use Rattle.std.specs.Prelude.{◌≡◌, ℕ, ◌++◌, Bool, List, [], ◌∷◌, Result, Ok, Err, length, Contains, ◌↔◌}
use Rattle.plan_rule.specs.declared.literal.Literal.{Literal}
use Rattle.shape_exact.specs.declared.memory.NoMemory.{NoMemory}
use Rattle.plan_rule.specs.Choices.{Choices}
use Rattle.refutation_log.specs.declared.record.Record.{Record}
use Rattle.refutation_log.specs.declared.record.Record.TheVariants.{Branch}
use Rattle.branch_kernel.specs.declared.steps.Shown.{Shown}
use Rattle.nogood_store.specs.Hits.{PlainStore}
use Rattle.branch_kernel.specs.Boxes.{kept, node_box}
use Rattle.branch_kernel.specs.Stored.{IsKept}

-- the record is added, and its number answered; or the log is as it was
abbrev pub IsWritten : Result ℕ NoMemory → List Record → List Record → Record → Type 0
IsWritten (Ok k) old new r = (k ≡ length old) × (new ≡ old ++ r ∷ [])
IsWritten (Err e) old new r = new ≡ old

-- a branch over the range is added, which cites these numbers, and its number answered; or the log is as it was
abbrev pub IsBranchWritten : Result ℕ NoMemory → List Record → List Record → Literal → List Literal → List ℕ → Type 0
IsBranchWritten (Ok k) old new range side cites =
    (list : List ℕ) × (k ≡ length old) × (new ≡ old ++ Branch range.block range.lo range.hi side list ∷ [])
    × ((x : ℕ) → Contains list x ↔ Contains cites x)
IsBranchWritten (Err e) old new range side cites = new ≡ old

-- the record of a range beside what is kept of a side was written, and its box may have been stored; or neither
abbrev pub IsClosed : Choices → Bool → List Literal → Literal → (ℕ → Bool) → List ℕ → List Record → List Record
    → PlainStore → PlainStore → Result Shown NoMemory → Type 0
IsClosed c tie side range needs cites log log' store store' (Ok shown) =
    (shown.tie ≡ tie) × IsBranchWritten (Ok shown.number) log log' range (kept needs side) cites
    × IsKept tie store.nogoods store'.nogoods
    (record { part = node_box c (kept needs side) range.block range.lo range.hi; tag = shown.number })
    × (store'.prefix ≡ store.prefix)
IsClosed c tie side range needs cites log log' store store' (Err e) = (log' ≡ log) × (store' ≡ store)
