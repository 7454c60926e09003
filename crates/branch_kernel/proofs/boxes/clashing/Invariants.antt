use Rattle.std.proofs.Common.{◌≡◌, ◌+◌}
use Rattle.std.specs.List.{AllWithin}
use Rattle.plan_rule.specs.Yards.{choices}
use Rattle.branch_kernel.proofs.boxes.clashing.Given as goal

-- no exact literal so far clashes with the code
abbrev pub invariant-loop-l : goal.invariant-loop-l
invariant-loop-l l = AllWithin (λ m. m.hi ≡ m.lo + 1 → (choices l.codes).Clash m.block m.lo l.block l.code → ⊥) l.l-items 0 l.l-index
