use Rattle.std.proofs.Common.{◌≡◌, vec_len}
use Rattle.steal_rule.proofs.Settling.{IsSettling}
use Rattle.steal_rule.proofs.deques.settle.Given as goal

-- the owner keeps its place while it takes in the reaches
abbrev pub invariant-loop-reach : goal.invariant-loop-reach
invariant-loop-reach l =
    (l.place.table_id ≡ l.initial.place.table_id)
    × (l.place.me.1 ≡ l.initial.place.me.1)
    × IsSettling l.initial.place.table_id l.initial.place.me.0 l.place.me.0 l.initial.reaches.items l.reaches.items

abbrev pub decreases-loop-reach : goal.decreases-loop-reach
decreases-loop-reach l = vec_len l.reaches
