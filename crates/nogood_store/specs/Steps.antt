-- The steps of the boxes as a code is entered. No public clause speaks of this.
use Rattle.std.specs.Prelude.{◌≡◌, ◌≢◌, ℕ, ◌-◌, ◌<◌, List, [], ◌∷◌, ◌++◌, length, map, All, Option, MatchOption}
use Rattle.nogood_store.specs.declared.nogood.Nogood.{Nogood}
use Rattle.nogood_store.specs.declared.step.Step.{Step}
use Rattle.nogood_store.specs.Waits.{box_of, waits}
use Rattle.watch_chains.specs.Lists.{Has, AreDistinct, moved}

-- the entries that steps move
abbrev pub entries_in : List Step → List ℕ
entries_in steps = map (λ s. s.entry) steps

-- the lists after some steps
abbrev pub lists_after : List (List ℕ) → List Step → List (List ℕ)
lists_after lists [] = lists
lists_after lists (s ∷ steps) = lists_after (moved lists s.entry s.chain) steps

-- the lists before each step and those that were past, the newest first
abbrev pub past_after : List (List ℕ) → List (List (List ℕ)) → List Step → List (List (List ℕ))
past_after lists past [] = past
past_after lists past (s ∷ steps) = past_after (moved lists s.entry s.chain) (lists ∷ past) steps

-- the entry's box waits for the next block, and once this code of it is entered for the step's chain, which is another
pub record IsStep (list : List Nogood) (codes : List ℕ) (code : ℕ) (s : Step) : Type 0 where
  pub known : s.entry < length list
  pub waited : waits codes (box_of list s.entry) ≡ length codes
  pub goes : waits (codes ++ code ∷ []) (box_of list s.entry) ≡ s.chain
  pub other : s.chain ≢ length codes

-- the step of the last box as a code is entered; none where it goes on waiting for the block that is entered
abbrev pub StepsLast : List Nogood → List ℕ → ℕ → Option Step → Type 0
StepsLast list codes code step =
    MatchOption step
    (waits codes (box_of list (length list - 1)) ≡ length codes
    → waits (codes ++ code ∷ []) (box_of list (length list - 1)) ≡ length codes)
    (λ s. (s.entry ≡ length list - 1) × IsStep list codes code s)

-- the steps of all boxes that move on as the code is entered, one each
pub record AreSteps (list : List Nogood) (codes : List ℕ) (code : ℕ) (steps : List Step) : Type 0 where
  pub each : All (IsStep list codes code) steps
  pub distinct : AreDistinct (entries_in steps)
  pub all : (e : ℕ) → e < length list → waits codes (box_of list e) ≡ length codes
      → waits (codes ++ code ∷ []) (box_of list e) ≢ length codes → Has e (entries_in steps)
