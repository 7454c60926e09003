use Rattle.std.specs.Prelude.{◌≢◌}
use Rattle.std.specs.List.{AllWithin}
use Rattle.plan_rule.proofs.plan_box.PlanBox.exact_code.Given as goal

-- no literal so far is on the block
abbrev pub invariant-loop-l : goal.invariant-loop-l
invariant-loop-l l = AllWithin (λ m. m.block ≢ l.block) l.l-items 0 l.l-index
