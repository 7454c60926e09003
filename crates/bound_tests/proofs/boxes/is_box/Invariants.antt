use Rattle.std.specs.List.{AllWithin}
use Rattle.plan_rule.specs.Boxes.{IsLiteral}
use Rattle.plan_rule.specs.Yards.{choices}
use Rattle.bound_tests.proofs.boxes.is_box.Given as goal

-- the literals so far are literals of a box
abbrev pub invariant-loop-l : goal.invariant-loop-l
invariant-loop-l l = AllWithin (IsLiteral (choices l.codes)) l.part 0 l.l-index
