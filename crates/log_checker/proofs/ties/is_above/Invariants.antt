use Rattle.std.proofs.Common.{◌≡◌, ◌<◌}
use Rattle.std.specs.List.{AllWithin}
use Rattle.log_checker.proofs.ties.is_above.Given as goal

-- no literal so far is on the block and above the code
abbrev pub invariant-loop-l : goal.invariant-loop-l
invariant-loop-l l = AllWithin (λ m. m.block ≡ l.block → l.code < m.lo → ⊥) l.side 0 l.l-index
