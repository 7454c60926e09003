use Rattle.std.proofs.Common.{◌≡◌, ◌+◌, map, take}
use Rattle.refutation_log.proofs.log.raised_cites.Given as goal

abbrev pub invariant-loop-cite : goal.invariant-loop-cite
invariant-loop-cite l = l.list.items ≡ map (λ k. k + l.by) (take l.cite-index l.cite-items)
