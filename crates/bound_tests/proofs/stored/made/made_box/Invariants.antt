use Rattle.std.proofs.Common.{◌<◌}
use Rattle.std.specs.Prelude.{All}
use Rattle.plan_rule.specs.Boxes.{AreLiterals}
use Rattle.bound_tests.proofs.stored.made.made_box.Given as goal

abbrev pub invariant-loop-block : goal.invariant-loop-block
invariant-loop-block l = AreLiterals l.list.items × All (λ m. m.block < l.block) l.list.items
