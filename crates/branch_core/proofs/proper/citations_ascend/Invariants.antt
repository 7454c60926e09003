use Rattle.std.proofs.Common.{◌≡◌, ◌<◌, ◌≤◌, ℕ, Some}
use Rattle.std.specs.Prelude.{slice_get}
use Rattle.refutation_log.specs.declared.record.Record.{Record}
use Rattle.refutation_log.specs.Citations.{AreCites}
use Rattle.refutation_log.specs.Logs.{cites_of}
use Rattle.branch_core.proofs.proper.citations_ascend.Given as goal

-- the citations of the records so far ascend
abbrev pub invariant-loop-i : goal.invariant-loop-i
invariant-loop-i l = (k : ℕ) (r : Record) → l.fn.from ≤ k → k < l.i → slice_get l.fn.log k ≡ Some r → AreCites (cites_of r)
