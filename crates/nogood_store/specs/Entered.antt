-- A store with codes entered: its chains, and the trail of its open moves. No public clause speaks of this.
use Rattle.std.specs.Prelude.{◌≡◌, ℕ, ◌+◌, ◌-◌, ◌<◌, ◌≤◌, List, [], ◌∷◌, length, take, drop, reverse, slice_index, slice_index_or}
use Rattle.nogood_store.specs.declared.nogood.Nogood.{Nogood}
use Rattle.nogood_store.specs.declared.step.Step.{Step}
use Rattle.nogood_store.specs.Waits.{box_of, Rising}
use Rattle.nogood_store.specs.Places.{AreFor, to_match, literals_of}
use Rattle.nogood_store.specs.Steps.{AreSteps}
use Rattle.watch_chains.specs.Lists.{Chained}

-- the lists as they were when so many moves were open
abbrev pub stage : Chained → ℕ → List (List ℕ)
stage v m = slice_index_or (reverse (v.lists ∷ v.past)) m []

-- the steps by which a depth was left for the next; marks has how many moves were open at each depth
abbrev pub segment : List Step → List ℕ → ℕ → List Step
segment trail marks d = take (slice_index marks (d + 1) - slice_index marks d) (drop (slice_index marks d) trail)

-- the marks up to a depth rise from 0 on
pub record AreMarks (marks : List ℕ) (depth : ℕ) : Type 0 where
  pub depths : length marks ≡ 33
  pub few : depth ≤ 32
  pub none : slice_index marks 0 ≡ 0
  pub order : (d e : ℕ) → d ≤ e → e ≤ depth → slice_index marks d ≤ slice_index marks e

-- the trail has the steps of each entered code
abbrev pub AreKnown : List Nogood → List ℕ → List ℕ → List Step → Type 0
AreKnown list codes marks trail =
    (d : ℕ) → d < length codes → AreSteps list (take d codes) (slice_index codes d) (segment trail marks d)

-- codes are entered
pub record AreEntered (list : List Nogood) (codes marks : List ℕ) (trail : List Step) (v : Chained) : Type 0 where
  pub entries : v.entries ≡ length list
  pub rising : (e : ℕ) → e < length list → Rising 0 (box_of list e)
  pub marked : AreMarks marks (length codes)
  pub now : slice_index marks (length codes) ≡ length v.past
  pub size : length trail ≡ length v.past
  pub each : (d : ℕ) → d ≤ length codes → AreFor list (take d codes) (stage v (slice_index marks d))
  pub steps : AreKnown list codes marks trail
  pub falling : (d : ℕ) → d ≤ length codes
      → to_match list 0 (stage v (slice_index marks d)) + slice_index marks d ≤ literals_of list
  pub room : literals_of list ≤ v.spare_moves + length v.past
