-- The first stored box that the prefix of a region meets, and the one record that cites it.
use Rattle.std.specs.Prelude.{◌≡◌, ℕ, ◌+◌, ◌<◌, ◌≤◌, List, [], ◌∷◌, ◌++◌, Some, None, length, take, Contains}
use Rattle.refutation_log.specs.declared.record.Record.{Record}
use Rattle.refutation_log.specs.Logs.{cites_of}
use Rattle.nogood_store.specs.declared.nogood.Nogood.{Nogood}
use Rattle.nogood_store.specs.Hits.{IsHit}

-- no block of the prefix has a hit, from a place on, asked with the codes before it
abbrev pub HasNoHitFrom : List Nogood → List ℕ → ℕ → Type 0
HasNoHitFrom store codes from = (j : ℕ) → from ≤ j → j < length codes → IsHit store (take (j + 1) codes) None

-- the first block of the prefix, from a place on, whose code has a hit, and the tag that it answers
pub record IsFirstHitFrom (store : List Nogood) (codes : List ℕ) (from place tag : ℕ) : Type 0 where
  pub within : place < length codes
  pub hit : IsHit store (take (place + 1) codes) (Some tag)
  pub first : (j : ℕ) → from ≤ j → j < place → IsHit store (take (j + 1) codes) None

-- no block of the prefix has a hit
abbrev pub HasNoHit : List Nogood → List ℕ → Type 0
HasNoHit store codes = HasNoHitFrom store codes 0

-- the first block of the prefix whose code has a hit, and the tag that it answers
abbrev pub IsFirstHit : List Nogood → List ℕ → ℕ → ℕ → Type 0
IsFirstHit store codes place tag = IsFirstHitFrom store codes 0 place tag

-- the log gains exactly one record, and it cites the number
abbrev pub GainsOneCiting : List Record → List Record → ℕ → Type 0
GainsOneCiting old new tag = (r : Record) × (new ≡ old ++ r ∷ []) × Contains (cites_of r) tag
