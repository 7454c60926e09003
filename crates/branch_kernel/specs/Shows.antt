-- What a record shows of a box, and of a code of a block beside a side.
use Rattle.std.specs.Prelude.{◌≡◌, ℕ, ◌+◌, ◌/◌, ◌^◌, ◌<◌, Bool, true, false, List, Option, Some, MatchOption, length, slice_get, All}
use Rattle.plan_rule.specs.declared.literal.Literal.{Literal}
use Rattle.plan_rule.specs.Choices.{Choices}
use Rattle.plan_rule.specs.Plans.{code_of, IsFeasible}
use Rattle.plan_rule.specs.Boxes.{Holds, Covers, IsBox}
use Rattle.refutation_log.specs.declared.record.Record.{Record}
use Rattle.refutation_log.specs.Steps.{IsCovered, result_of}
use Rattle.branch_kernel.specs.declared.steps.Shown.{Shown}
use Rattle.branch_kernel.specs.Rivals.{IsRival, IsSettled, Settles}
use Rattle.branch_kernel.specs.States.{State, relied}
use Rattle.branch_kernel.specs.Boxes.{kept}
use Rattle.branch_kernel.specs.Unbeaten.{IsUnbeaten}
use Rattle.branch_kernel.specs.Clean.{IsClean, StoreSettles, StoreIsClean}

-- a record of the log whose result contains the box; where the store was right at the start, the box's feasible
-- plans are settled, and where no tie was used the record is clean
pub record IsAnswered (c : Choices) (start state : State) (tie : Bool) (k : ℕ) (box : List Literal) : Type 0 where
  pub record_is : Record
  pub at : slice_get state.log k ≡ Some record_is
  pub contains : Covers c (result_of c record_is) box
  pub settles : StoreSettles c start → Settles c state.bar (relied tie state.best) box
  pub clean : StoreIsClean c start → tie ≡ false → IsClean c state.bar state.log k

-- a record of the log whose result contains the box; where the store was right at the start, the plans of its
-- whole result are settled, and where no tie was used it is clean
pub record IsShown (c : Choices) (start state : State) (tie : Bool) (k : ℕ) (box : List Literal) : Type 0 where
  pub record_is : Record
  pub at : slice_get state.log k ≡ Some record_is
  pub contains : Covers c (result_of c record_is) box
  pub result_is : IsBox c (result_of c record_is)
  pub settles : StoreSettles c start → Settles c state.bar (relied tie state.best) (result_of c record_is)
  pub clean : StoreIsClean c start → tie ≡ false → IsClean c state.bar state.log k

-- a code of a block, beside a side: each rival finds it covered, and its feasible plans are settled
pub record IsHandled (c : Choices) (start state : State) (tie : Bool)
    (side : List Literal) (cites : List ℕ) (b code : ℕ) : Type 0 where
  pub covered : (t : Option (List ℕ)) → IsRival c state.bar (relied tie state.best) t
      → IsCovered c t state.log side cites b code
  pub settles : StoreSettles c start → (q : List ℕ) → IsFeasible c q → Holds side q → code_of q b ≡ code
      → IsSettled c state.bar (relied tie state.best) q

-- a code is handled beside whatever keeps the literals of the blocks that are needed
abbrev pub IsHandledBy : Choices → State → State → Bool → List Literal → (ℕ → Bool) → List ℕ → ℕ → ℕ → Type 0
IsHandledBy c start s tie side needs cites b code =
    (keep : ℕ → Bool) → ((x : ℕ) → needs x ≡ true → keep x ≡ true) → IsHandled c start s tie (kept keep side) cites b code

-- the cited records are earlier ones, and clean where no tie was used
pub record AreCited (c : Choices) (start state : State) (tie : Bool) (cites : List ℕ) : Type 0 where
  pub earlier : All (λ k. k < length state.log) cites
  pub clean : StoreIsClean c start → tie ≡ false → All (IsClean c state.bar state.log) cites

-- the log's last record is this one, and it shows the box
abbrev pub IsShownLast : Choices → State → State → List Literal → Shown → Type 0
IsShownLast c start now box shown =
    (shown.number + 1 ≡ length now.log) × IsShown c start now shown.tie shown.number box

-- of none: no record was written, and the bounds leave the box open; else one record was, and it shows the box
abbrev pub TellsBounded : Choices → State → State → List Literal → Option Shown → Type 0
TellsBounded c start now box found =
    MatchOption found ((now.log ≡ start.log) × IsUnbeaten c box (now.bar / 2 ^ 32))
    (λ shown. (length now.log ≡ length start.log + 1) × (shown.number + 1 ≡ length now.log)
    × IsShown c start now shown.tie shown.number box)
