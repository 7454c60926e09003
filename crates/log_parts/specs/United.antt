-- A log taken into another one, each box once.
use Rattle.std.specs.Prelude.{slice_index, slice_get, ◌≡◌, ℕ, ◌<◌, ◌⊎◌, List, [], ◌∷◌, ◌++◌, Option, Some, None, length, All, Contains}
use Rattle.shape_exact.specs.Yards.{PlainYard}
use Rattle.plan_rule.specs.Yards.{choices}
use Rattle.plan_rule.specs.declared.literal.Literal.{Literal}
use Rattle.refutation_log.specs.declared.record.Record.{Record}
use Rattle.refutation_log.specs.declared.record.Record.TheVariants.{Branch, Fit, Energy}
use Rattle.refutation_log.specs.Logs.{KeepsSteps}
use Rattle.refutation_log.specs.Steps.{result_of}

-- the range of a branch
abbrev pub range_of : Record → Option Literal
range_of (Branch b lo hi side cites) = Some (record { block = b; lo = lo; hi = hi })
range_of (Fit side) = None
range_of (Energy from to side) = None

-- the literals of a record's side
abbrev pub side_of : Record → List Literal
side_of (Branch b lo hi side cites) = side
side_of (Fit side) = side
side_of (Energy from to side) = side

-- in every yard both records refute one box
abbrev pub IsSameBox : Record → Record → Type 0
IsSameBox r e = (yard : PlainYard) → result_of (choices yard) e ≡ result_of (choices yard) r

-- the log has this number, and the record there refutes the box of this one
abbrev pub HasBoxAt : List Record → Record → ℕ → Type 0
HasBoxAt log r n = (e : Record) × (slice_get log n ≡ Some e) × IsSameBox r e

-- the same record, but that it may cite others
abbrev pub IsRecited : Record → Record → Type 0
IsRecited (Branch b lo hi side cites) e = (list : List ℕ) × (e ≡ Branch b lo hi side list)
IsRecited (Fit side) e = e ≡ Fit side
IsRecited (Energy from to side) e = e ≡ Energy from to side

-- the same record, but that for each that it cited it cites the number in that place of the list, and none from n on
abbrev pub IsRecitedBy : List ℕ → ℕ → Record → Record → Type 0
IsRecitedBy numbers n (Branch b lo hi side cites) e =
    (list : List ℕ) × (e ≡ Branch b lo hi side list) × All (λ k. k < n) list
    × ((k : ℕ) → Contains cites k → Contains list (slice_index numbers k))
IsRecitedBy numbers n (Fit side) e = e ≡ Fit side
IsRecitedBy numbers n (Energy from to side) e = e ≡ Energy from to side

-- the number is that of a record with this one's box, which stood there or was added last
abbrev pub IsPlaced : List ℕ → List Record → List Record → Record → ℕ → Type 0
IsPlaced numbers old new r n =
    ((new ≡ old) × HasBoxAt old r n)
    ⊎ ((n ≡ length old) × ((e : Record) × (new ≡ old ++ e ∷ []) × IsRecitedBy numbers (length old) r e))

-- The log has grown by records of the other one, which may cite others; at each of the numbers stands a record with the box
-- of the other log's record in that place; and where each record of both logs is a step, so is each of the whole.
pub record IsUnited (log own whole : List Record) (numbers : List ℕ) : Type 0 where
  pub grown : (more : List Record) × (whole ≡ log ++ more) × All (λ e. (r : Record) × Contains own r × IsRecited r e) more
  pub size : length numbers ≡ length own
  pub boxes : (i : ℕ) (r : Record) → slice_get own i ≡ Some r → HasBoxAt whole r (slice_index numbers i)
  pub steps : KeepsSteps log own whole
