use Rattle.std.proofs.Common.{◌≡◌, ℕ, ◌<◌, get_or}
use Rattle.plan_rule.specs.declared.literal.Literal.{Literal}
use Rattle.log_checker.proofs.cited.span_on.Given as goal

-- none of the first literals is on the block
abbrev pub invariant-loop-l : goal.invariant-loop-l
invariant-loop-l l = (k : ℕ) (d : Literal) → k < l.l-index → (get_or l.l-items k d).block ≡ l.block → ⊥
