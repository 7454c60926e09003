use Rattle.std.proofs.Common.{◌≡◌, ◌++◌, List, ℕ, length}
use Rattle.std.specs.Vec.{vec_capacity}
use Rattle.nogood_store.specs.Among.{rest_from}
use Rattle.nogood_store.specs.declared.step.Step.{Step}
use Rattle.nogood_store.proofs.GatherLaws.{AreGathered}
use Rattle.watch_chains.specs.Lists.{entries_of, first_of}
use Rattle.nogood_store.proofs.moves.gather.Given as goal

abbrev pub invariant-loop-cursor : goal.invariant-loop-cursor
invariant-loop-cursor l = (before : List ℕ) × (rest : List ℕ) × (steps : List Step)
    × (entries_of l.chains.lists (length l.codes) ≡ before ++ rest) × (l.cursor ≡ first_of rest)
    × (l.trail.items ≡ l.initial.trail.items ++ steps) × AreGathered l.list l.codes l.code before steps
    × (vec_capacity l.trail ≡ vec_capacity l.initial.trail)

abbrev pub decreases-loop-cursor : goal.decreases-loop-cursor
decreases-loop-cursor l = length (rest_from l.cursor (entries_of l.chains.lists (length l.codes)))
