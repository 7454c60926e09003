use Rattle.std.proofs.Common.{◌≡◌, ◌-◌, ◌%◌, ◌^◌, ◌<◌, ◌≤◌}
use Rattle.plan_rule.specs.Fronts.{IsLeft, IsRange, IsSettled}
use Rattle.plan_rule.specs.Yards.{choices}
use Rattle.plan_rule.proofs.region.region_of.Given as goal

abbrev pub invariant-loop-bit : goal.invariant-loop-bit
invariant-loop-bit l = record {
  range : IsRange (choices l.codes) l.left;
  settled : IsSettled l.left;
  part : IsLeft (choices l.codes) (l.fn.job.front - l.rest) (32 - l.bit) l.left;
  low : l.rest ≤ l.fn.job.front;
  short : l.rest < 2 ^ (32 - l.bit);
  multiple : l.rest % 2 ^ (32 - l.fn.job.length) ≡ 0;
}
