use Rattle.std.proofs.Common.{sym, subst}
use Rattle.incumbent_word.specs.Sharing.{IsShareable}
use Rattle.incumbent_word.proofs.PairLaws.{postable_last}
use Rattle.incumbent_word.proofs.tests.a_posted_capsule_is_fetched_once.Goals as goal

pub posted-requires-clause-capsule : goal.posted-requires-clause-capsule
posted-requires-clause-capsule g c =
    postable_last _ _ _ _ _ _ c.offer-bar.ensures.seen c.capsule_of-capsule.ensures.bar
    (subst (λ y. IsShareable y c.capsule_of-capsule.result) (sym c.board_of-board.ensures.yard) c.capsule_of-capsule.ensures.shareable)
