use Rattle.std.proofs.Common.{◌≡◌, length}
use Rattle.tardiness_bounds.specs.Rows.{HaveRows}
use Rattle.tardiness_bounds.proofs.rows.Rows.new.Given as goal

-- the rows so far
abbrev pub invariant-loop-k : goal.invariant-loop-k
invariant-loop-k l = record {
  len : length l.list.items ≡ l.k;
  each : HaveRows l.obstacles l.reach l.list.items;
}
