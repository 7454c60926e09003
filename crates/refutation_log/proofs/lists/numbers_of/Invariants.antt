use Rattle.std.proofs.Common.{◌≡◌, length}
use Rattle.refutation_log.specs.Reading.{ascending, cite_of}
use Rattle.text_parts.proofs.CutLaws.{pieces}
use Rattle.refutation_log.proofs.ListLaws.{with_front}
use Rattle.refutation_log.proofs.lists.numbers_of.Given as goal

abbrev pub invariant-loop-piece : goal.invariant-loop-piece
invariant-loop-piece l =
    with_front l.list.items (ascending (λ k. k) cite_of l.least (pieces 44 l.rest)) ≡ ascending (λ k. k) cite_of 0 (pieces 44 l.fn.text)

abbrev pub decreases-loop-piece : goal.decreases-loop-piece
decreases-loop-piece l = length l.rest
