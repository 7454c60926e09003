use Rattle.std.specs.List.{AllWithin}
use Rattle.std.specs.Prelude.{◌<◌}
use Rattle.log_checker.proofs.steps.first_late.Given as goal

-- the citations so far are of earlier records
abbrev pub invariant-loop-cite : goal.invariant-loop-cite
invariant-loop-cite l = AllWithin (λ k. k < l.step) l.cite-items 0 l.cite-index
