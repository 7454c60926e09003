use Rattle.std.proofs.Common.{◌≤◌, length}
use Rattle.std.specs.Prelude.{All, Contains}
use Rattle.log_checker.proofs.passed.common.Given as goal

-- those found are among the others
abbrev pub invariant-loop-f : goal.invariant-loop-f
invariant-loop-f l = record {
  few : length l.both.items ≤ l.f-index;
  among : All (Contains l.others) l.both.items;
}
