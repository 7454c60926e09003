use Rattle.std.proofs.Common.{◌≡◌, ◌+◌, take}
use Rattle.refutation_log.specs.Logs.{citations}
use Rattle.refutation_log.proofs.capsule.cite_few.Given as goal

abbrev pub invariant-loop-entry : goal.invariant-loop-entry
invariant-loop-entry l = citations (take l.entry-index l.records) + l.left ≡ 1024
