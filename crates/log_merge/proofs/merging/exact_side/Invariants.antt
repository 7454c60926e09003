use Rattle.std.proofs.Common.{◌≡◌, ◌++◌, drop}
use Rattle.plan_rule.specs.RegionBoxes.{exact_literals}
use Rattle.plan_rule.specs.Yards.{choices}
use Rattle.log_merge.proofs.merging.exact_side.Given as goal

-- the literals so far, before those of the other blocks
abbrev pub invariant-loop-block : goal.invariant-loop-block
invariant-loop-block l = l.list.items ++ exact_literals (choices l.codes) l.block (drop l.block l.exact) ≡ exact_literals (choices l.codes) 0 l.exact
