use Rattle.std.proofs.Common.{◌≤◌, List, length, sym, subst}
use Rattle.minkowski_obstacles.specs.Pairs.{Pair}
use Rattle.tardiness_bounds.specs.Rows.{AreRows}
use Rattle.tardiness_bounds.specs.Tables.{lists_of}
use Rattle.tardiness_bounds.proofs.KeptLaws.{few_obstacles}
use Rattle.tardiness_bounds.proofs.LeftLaws.{first_lefts_are}
use Rattle.tardiness_bounds.proofs.tables.YardTables.new.Goals as goal

pub new-requires-3 : goal.new-requires-3
new-requires-3 c =
    subst (λ (list : List Pair). length list ≤ 22528) (sym c.as_slice.ensures.value)
    (few_obstacles c.args.codes.now c.in_ok-obstacles.obstacles.list.items c.limits.ensures.limits c.in_ok-obstacles.ensures)

pub invariant_of-tables-2 : goal.invariant_of-tables-2
invariant_of-tables-2 c = record {
  slots_are = c.in_ok-slots.ensures;
  stretches_are = c.in_ok-stretches.ensures;
  lattices_are = c.in_ok-lattices.ensures;
  obstacles_are = c.in_ok-obstacles.ensures;
  rows_are = subst (λ (list : List Pair). AreRows list c.in_ok-rows.rows.reach c.in_ok-rows.rows.list.items) c.as_slice.ensures.value c.in_ok-rows.ensures;
  lefts_are = first_lefts_are (record { yard = c.args.codes.now; slots = lists_of c.in_ok-slots.slots.items }) c.in_ok-tables-inside.field-0.items
      c.in_ok-tables-inside.ensures.lefts c.in_ok-tables-inside.ensures.len;
}
