use Rattle.std.proofs.Common.{◌≡◌, false, [], ◌∷◌, sym, rules}
use Rattle.std.specs.Str.{bytes_eq}
use Rattle.std.proofs.lemmas.Result.{err_from_is_err_and}
use Rattle.refutation_log.specs.Reading.{cite_of, cites_of}
use Rattle.refutation_log.proofs.ListLaws.{reads_more, reads_none, reads_last, reads_no_last, unread_so}
use Rattle.refutation_log.proofs.lists.numbers_of.Goals as goal

pub returns-in_err-cite : goal.returns-in_err-cite
unfolding cites_of
returns-in_err-cite c =
    let list : bytes_eq c.args.text.now (45 ∷ []) ≡ false = search rules in
    let p = err_from_is_err_and c.from_residual.result c.from_residual.ensures.1 in
    let l = c.loop-piece in
    rw (p.1, p.2) (unread_so c.in_err-cite.field-0.0 _ _ (λ none. rw list (reads_none (λ k. k) cite_of l.least l.list.items l.rest.now _ l.invariant c.in-Some.piece.now c.in-Some.more.now (sym c.in-Some.ensures.parts) none)) c.in_err-cite.ensures.reads)

pub loop-piece-preserved : goal.loop-piece-preserved
loop-piece-preserved c =
    let l = c.loop-piece in
    rw c.in_ok-push.ensures.items (reads_more (λ k. k) cite_of l.least l.list.items l.rest.now _ l.invariant c.in-Some.piece.now c.in-Some.more.now c.in_ok-cite.cite (sym c.in-Some.ensures.parts) c.in_ok-cite.ensures.reads)

pub returns-in_err-last : goal.returns-in_err-last
unfolding cites_of
returns-in_err-last c =
    let list : bytes_eq c.args.text.now (45 ∷ []) ≡ false = search rules in
    let p = err_from_is_err_and c.from_residual-in_err-last.result c.from_residual-in_err-last.ensures.1 in
    let l = c.loop-piece in
    rw (p.1, p.2) (unread_so c.in_err-last.field-0.0 _ _ (λ none. rw list (reads_no_last (λ k. k) cite_of l.least l.list.items l.rest.now _ l.invariant (sym c.in_default.ensures.parts) none)) c.in_err-last.ensures.reads)

pub returns : goal.returns
unfolding cites_of
returns c =
    let list : bytes_eq c.args.text.now (45 ∷ []) ≡ false = search rules in
    let l = c.loop-piece in
    rw (list, c.in_ok-push-2.ensures.items) (reads_last (λ k. k) cite_of l.least l.list.items l.rest.now _ l.invariant c.in_ok-last.last (sym c.in_default.ensures.parts) c.in_ok-last.ensures.reads)
