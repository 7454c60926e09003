use Rattle.plan_rule.specs.Boxes.{AreLiterals}
use Rattle.bound_tests.proofs.BoxLaws.{ComeBefore}
use Rattle.bound_tests.proofs.boxes.box_of.Given as goal

-- the literals so far are on blocks before the next one
abbrev pub invariant-loop-l : goal.invariant-loop-l
invariant-loop-l l = record {
  literals : AreLiterals l.list.items;
  before : ComeBefore l.next l.list.items;
}
