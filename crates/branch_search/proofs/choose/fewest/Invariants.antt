use Rattle.std.proofs.Common.{◌≡◌, ◌<◌, None}
use Rattle.plan_rule.specs.Choices.{blocks}
use Rattle.plan_rule.specs.Boxes.{exact_code}
use Rattle.plan_rule.specs.Yards.{choices}
use Rattle.branch_search.proofs.choose.fewest.Given as goal

-- the chosen block is one that the box leaves open
abbrev pub invariant-loop-block : goal.invariant-loop-block
invariant-loop-block l = record {
  block : l.chosen < blocks (choices l.codes);
  unset : exact_code l.part l.chosen ≡ None;
}
