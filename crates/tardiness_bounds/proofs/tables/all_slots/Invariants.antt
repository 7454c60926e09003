use Rattle.std.proofs.Common.{◌≡◌, length}
use Rattle.tardiness_bounds.specs.Tables.{HaveSlots}
use Rattle.tardiness_bounds.proofs.tables.all_slots.Given as goal

-- each block so far has its slots
abbrev pub invariant-loop-block : goal.invariant-loop-block
invariant-loop-block l = record {
  len : length l.slots.items ≡ l.block-index;
  each : HaveSlots l.codes l.blocks l.slots.items;
}
