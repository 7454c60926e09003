use Rattle.std.proofs.Common.{◌≡◌, ◌<◌, ℕ, length}
use Rattle.plan_rule.specs.Plans.{code_of}
use Rattle.plan_rule.specs.Boxes.{HasExact}
use Rattle.branch_kernel.proofs.boxes.plan_of.Given as goal

abbrev pub invariant-loop-block : goal.invariant-loop-block
invariant-loop-block l = (length l.list.items ≡ l.block) × ((b : ℕ) → b < l.block → HasExact l.part b (code_of l.list.items b))
