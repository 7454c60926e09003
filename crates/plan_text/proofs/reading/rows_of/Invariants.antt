use Rattle.std.proofs.Common.{◌≡◌, ◌+◌, drop}
use Rattle.plan_text.specs.Reading.{rows_of, lines}
use Rattle.plan_text.proofs.TurnLaws.{with_front}
use Rattle.plan_text.proofs.reading.rows_of.Given as goal

-- the codes so far, and those of the lines that are left, are those of all lines
abbrev pub invariant-loop-block : goal.invariant-loop-block
invariant-loop-block l =
    with_front l.list.items (rows_of l.codes (drop l.block l.codes.blocks) (l.block + 2) (lines l.rest)) ≡ rows_of l.codes l.codes.blocks 2 (lines l.bytes)
