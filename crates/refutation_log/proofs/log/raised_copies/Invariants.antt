use Rattle.std.proofs.Common.{◌≡◌, map, take}
use Rattle.refutation_log.specs.Logs.{raised}
use Rattle.refutation_log.proofs.log.raised_copies.Given as goal

abbrev pub invariant-loop-entry : goal.invariant-loop-entry
invariant-loop-entry l = l.copies.items ≡ map (raised l.by) (take l.entry-index l.records)
