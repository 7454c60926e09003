use Rattle.std.proofs.Common.{◌≡◌, ◌+◌, ◌≤◌, length}
use Rattle.refutation_log.specs.Reading.{records_from, lines}
use Rattle.refutation_log.proofs.LogLaws.{with_records}
use Rattle.refutation_log.proofs.reading.records_of.Given as goal

abbrev pub invariant-loop-line : goal.invariant-loop-line
invariant-loop-line l =
    (with_records l.list.items (records_from l.number (lines l.rest)) ≡ records_from 2 (lines l.bytes))
    × (l.number + length l.rest ≤ length l.bytes + 2)

abbrev pub decreases-loop-line : goal.decreases-loop-line
decreases-loop-line l = length l.rest
