use Rattle.std.proofs.Common.{◌≡◌, ◌<◌, ◌≤◌, ◌++◌, List, Bool, ℕ}
use Rattle.plan_rule.specs.Bits.{IsOpen, filled, code_bits}
use Rattle.plan_rule.specs.Paths.{halvings}
use Rattle.plan_rule.proofs.path_number.with_halvings.Given as goal

abbrev pub invariant-loop-made : goal.invariant-loop-made
invariant-loop-made l = record {
  open' : IsOpen l.made;
  low : l.lo ≤ l.code;
  high : l.code < l.hi;
  value : (m : ℕ) × (l.made.left ≤ m) × ((rest : List Bool) → filled l.made (halvings m l.lo l.hi l.code ++ rest) ≡ filled l.fn.bits (code_bits l.count l.code ++ rest));
}

abbrev pub decreases-loop-made : goal.decreases-loop-made
decreases-loop-made l = l.made.left
