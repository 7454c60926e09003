use Rattle.std.proofs.Common.{sym, subst}
use Rattle.incumbent_word.specs.Sharing.{IsShareable}
use Rattle.incumbent_word.proofs.PairLaws.{postable_last, postable_most}
use Rattle.incumbent_word.proofs.tests.a_post_gives_what_stood_there.Goals as goal

pub posted-requires-clause-capsule : goal.posted-requires-clause-capsule
posted-requires-clause-capsule g c =
    postable_most _ _ _ c.capsule_of-old.ensures.bar
    (subst (λ y. IsShareable y c.capsule_of-old.result) (sym c.board_of-board.ensures.yard) c.capsule_of-old.ensures.shareable)

pub posted-requires-2-clause-capsule : goal.posted-requires-2-clause-capsule
posted-requires-2-clause-capsule g c =
    postable_last _ _ _ _ _ _ c.offer-bar.ensures.seen c.capsule_of-new.ensures.bar
    (subst (λ y. IsShareable y c.capsule_of-new.result) (sym c.board_of-board.ensures.yard) c.capsule_of-new.ensures.shareable)
