use Rattle.std.proofs.Common.{◌≡◌, [], ◌∷◌, ◌++◌, ◌<◌, ◌∙◌, Some, ap, arith, get_or, length, subst}
use Rattle.std.specs.Prelude.{slice_get}
use Rattle.common_lists.proofs.ListLaws.{get_or-default}
use Rattle.log_parts.proofs.PartLaws.{closing_begins, closing_ends, closing_more, picked_within, read_at}
use Rattle.log_parts.proofs.picked.closure_of.Goals as goal

pub loop-i-init : goal.loop-i-init
loop-i-init c = closing_begins _ _ _ (c.in_ok-push.ensures.items ∙ ap (λ l. l ++ c.args.last ∷ []) c.new-picked.ensures.items)

pub returns-then-i-len : goal.returns-then-i-len
returns-then-i-len c = closing_ends _ _ _ c.loop-i.i (omega arith) c.loop-i.invariant

pub loop-i-preserved : goal.loop-i-preserved
loop-i-preserved c =
    let inside : c.loop-i.i < length c.loop-i.picked.items = let w = c.loop-i.invariant.within in omega arith in
    let own_is : c.index.result.now ≡ get_or c.loop-i.picked.items c.loop-i.i 0 = c.index.ensures ∙ get_or-default c.loop-i.picked.items c.loop-i.i c.index.result.now 0 inside in
    closing_more c.args.log.now c.args.last c.loop-i.picked.items c.add_cites.new.picked.items c.loop-i.i c.index-records-index.result c.requires.earlier c.loop-i.invariant inside
    (subst (λ k. slice_get c.args.log.now k ≡ Some c.index-records-index.result) own_is
    (read_at c.records-records.result.now c.args.log.now c.index.result.now c.index-records-index.result c.records-records.ensures.value
    (let b = picked_within c.args.log.now c.args.last c.loop-i.picked.items c.loop-i.i c.requires.within c.loop-i.invariant inside in omega arith) c.index-records-index.is))
    c.in_ok-add_cites.ensures
