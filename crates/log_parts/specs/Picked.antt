-- The records on which a record rests, and their copies.
use Rattle.std.specs.Prelude.{slice_index, slice_get, ◌≡◌, ℕ, ◌+◌, ◌<◌, ◌≤◌, ◌⊎◌, List, [], ◌∷◌, ◌++◌, Option, Some, length, All, Contains}
use Rattle.shape_exact.specs.Yards.{PlainYard}
use Rattle.plan_rule.specs.Yards.{choices}
use Rattle.refutation_log.specs.declared.record.Record.{Record}
use Rattle.refutation_log.specs.declared.record.Record.TheVariants.{Branch, Fit, Energy}
use Rattle.refutation_log.specs.Logs.{AreSteps, cites_of}
use Rattle.refutation_log.specs.Steps.{IsStepAt, result_of}
use Rattle.branch_kernel.specs.Clean.{Leads}

-- the number was in the list, or was added last
abbrev pub IsOneAdded : ℕ → List ℕ → List ℕ → Type 0
IsOneAdded number old new = ((new ≡ old) ⊎ (new ≡ old ++ number ∷ [])) × Contains new number

-- the list has grown by some of the numbers, and holds all of them
pub record IsAdded (numbers old new : List ℕ) : Type 0 where
  pub grown : (more : List ℕ) × (new ≡ old ++ more) × All (Contains numbers) more
  pub has : All (Contains new) numbers

-- the numbers do not fall
abbrev pub Rises : List ℕ → Type 0
Rises xs = (i j : ℕ) → i ≤ j → j < length xs → slice_index xs i ≤ slice_index xs j

-- the list holds the record's number, and what each of its records cites; and citations lead from the record to each
pub record IsClosedUnder (log : List Record) (last : ℕ) (picked : List ℕ) : Type 0 where
  pub has : Contains picked last
  pub closed : (k : ℕ) (r : Record) → Contains picked k → slice_get log k ≡ Some r → All (Contains picked) (cites_of r)
  pub led : All (λ k. (k ≤ last) × ((n : ℕ) × Leads log n last k)) picked

-- each number stands in the list at one of the places, and each place has one of the numbers
pub record AreFoundIn (picked numbers places : List ℕ) : Type 0 where
  pub each : (k : ℕ) → Contains numbers k → (j : ℕ) × Contains places j × (j < length picked) × (slice_index picked j ≡ k)
  pub only : All (λ j. (j < length picked) × Contains numbers (slice_index picked j)) places

-- the same record, but that it cites places below n at which what it cited stands
abbrev pub IsRenumbered : List ℕ → ℕ → Record → Record → Type 0
IsRenumbered picked n (Branch b lo hi side cites) r =
    (list : List ℕ) × (r ≡ Branch b lo hi side list) × All (λ j. j < n) list
    × ((k : ℕ) → Contains cites k → (j : ℕ) × Contains list j × (j < length picked) × (slice_index picked j ≡ k))
IsRenumbered picked n (Fit side) r = r ≡ Fit side
IsRenumbered picked n (Energy from to side) r = r ≡ Energy from to side

-- the first n records are copies of the first n picked ones
pub record AreCopied (log : List Record) (picked : List ℕ) (part : List Record) (n : ℕ) : Type 0 where
  pub size : length part ≡ n
  pub each : (j : ℕ) → j < n → (e : Record) × (r : Record) × (slice_get log (slice_index picked j) ≡ Some e)
      × (slice_get part j ≡ Some r) × IsRenumbered picked j e r

-- where the record and each that it cites, followed down, is a step, so is each record of the part; and the part's last
-- record has the record's result
pub record IsDerivation (log : List Record) (last : ℕ) (part : List Record) : Type 0 where
  pub steps : (yard : PlainYard) (t : Option (List ℕ)) → ((n i : ℕ) → Leads log n last i → IsStepAt (choices yard) t log i)
      → AreSteps (choices yard) t part
  pub result : (i : ℕ) (r : Record) → i + 1 ≡ length part → slice_get part i ≡ Some r
      → (e : Record) × (slice_get log last ≡ Some e) × ((yard : PlainYard) → result_of (choices yard) r ≡ result_of (choices yard) e)
