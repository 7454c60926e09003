use Rattle.std.proofs.Common.{◌≡◌}
use Rattle.steal_rule.specs.Views.{swept}
use Rattle.steal_rule.proofs.sweep.sweep.Given as goal

-- the cells so far were found empty
abbrev pub invariant-loop-cell : goal.invariant-loop-cell
invariant-loop-cell l = (l.place.table_id ≡ l.initial.place.table_id) × (l.place.me.1 ≡ l.initial.place.me.1) × (l.place.me.0 ≡ swept l.cell l.initial.place.me.0)
