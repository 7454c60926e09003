use Rattle.std.proofs.Common.{◌≡◌, ◌∷◌, ◌++◌, [], List, ℕ, length}
use Rattle.nogood_store.specs.Among.{IsHitAmong, rest_from}
use Rattle.watch_chains.specs.Lists.{entries_of, first_of}
use Rattle.nogood_store.proofs.hits.least_on.Given as goal

abbrev pub invariant-loop-cursor : goal.invariant-loop-cursor
invariant-loop-cursor l = (before : List ℕ) × (rest : List ℕ)
    × (entries_of l.chains.lists l.chain ≡ before ++ rest) × (l.cursor ≡ first_of rest)
    × ((seen : List ℕ) → IsHitAmong l.list (l.codes ++ l.code ∷ []) seen l.fn.least → IsHitAmong l.list (l.codes ++ l.code ∷ []) (seen ++ before) l.least)

abbrev pub decreases-loop-cursor : goal.decreases-loop-cursor
decreases-loop-cursor l = length (rest_from l.cursor (entries_of l.chains.lists l.chain))
