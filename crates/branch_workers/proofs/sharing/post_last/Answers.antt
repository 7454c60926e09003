use Rattle.std.proofs.Common.{◌≡◌, Option, arith, subst, sym, ◌∙◌}
use Rattle.std.specs.Prelude.{IfSome}
use Rattle.refutation_log.specs.Logs.{PlainCapsule}
use Rattle.log_parts.specs.Picked.{IsDerivation}
use Rattle.std.proofs.lemmas.Option.{slice_get_within}
use Rattle.incumbent_word.specs.Sharing.{IsShareable}
use Rattle.branch_workers.proofs.SharingLaws.{postable_shareable}
use Rattle.branch_workers.proofs.sharing.post_last.Goals as goal

pub derivation-requires-clause-within : goal.derivation-requires-clause-within
derivation-requires-clause-within c =
    let h = c.requires.postable (omega arith) c.in-Some.tag (sym c.last.ensures ∙ c.in-Some.is) in
    slice_get_within _ _ h.record_is h.at

pub post-posted-requires-clause-shareable : goal.post-posted-requires-clause-shareable
post-posted-requires-clause-shareable c =
    let h = c.requires.postable (omega arith) c.in-Some.tag (sym c.last.ensures ∙ c.in-Some.is) in
    let d = subst (λ (o : Option PlainCapsule). IfSome o (λ (x : PlainCapsule). (x.bar ≡ c.args.seen) × IsDerivation c.args.log.now c.in-Some.tag x.log)) c.in-Some-found.is c.in-Ok.ensures in
    subst (λ y. IsShareable y c.in-Some-found.capsule) (sym c.requires.board.1)
    (postable_shareable c.args.codes.now c.args.seen c.in-Some.tag c.args.log.now c.in-Some-found.capsule h d.0 d.1)
