-- What a store keeps. No public clause speaks of this.
use Rattle.std.specs.Prelude.{◌≡◌, ℕ, ◌≤◌, List, length, take}
use Rattle.nogood_store.specs.declared.nogood.Nogood.{Nogood}
use Rattle.nogood_store.specs.declared.step.Step.{Step}
use Rattle.nogood_store.specs.Places.{literals_of}
use Rattle.nogood_store.specs.Entered.{AreMarks, AreEntered}
use Rattle.watch_chains.specs.Lists.{Chained}

-- the first codes are entered, and each trail has room for a step of every literal
pub record IsStore (list : List Nogood) (v : Chained) (codes : List ℕ) (depth literals : ℕ)
    (marks : List ℕ) (steps : List Step) (room : ℕ) (spare_marks : List ℕ) (spare_room : ℕ) : Type 0 where
  pub deep : depth ≤ 32
  pub blocks : length codes ≡ 32
  pub few : length list ≤ 65536
  pub counted : literals ≡ literals_of list
  pub entered : AreEntered list (take depth codes) marks steps v
  pub roomy : literals_of list ≤ room
  pub spare_marked : AreMarks spare_marks 0
  pub spare_roomy : literals_of list ≤ spare_room
