use Rattle.std.proofs.Common.{◌≡◌, drop}
use Rattle.plan_rule.specs.Bits.{IsOpen, filled, plan_bits}
use Rattle.plan_rule.specs.Paths.{path}
use Rattle.plan_rule.specs.Yards.{choices}
use Rattle.plan_rule.proofs.path_number.path.Given as goal

abbrev pub invariant-loop-block : goal.invariant-loop-block
invariant-loop-block l = record {
  open' : IsOpen l.bits;
  value : filled l.bits (plan_bits (drop l.block (choices l.codes).counts) (drop l.block l.code-items)) ≡ path (choices l.codes) l.code-items;
}
