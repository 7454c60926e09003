use Rattle.std.proofs.Common.{rules, ap, ◌∙◌, sym, refl}
use Rattle.steal_rule.specs.Views.{passed}
use Rattle.steal_rule.proofs.SwapLaws.{swaps, passed_of}
use Rattle.steal_rule.proofs.SweptLaws.{swept_live, swept_more, swept_none}
use Rattle.steal_rule.proofs.sweep.sweep.Goals as goal

pub swap-found-requires : goal.swap-found-requires
swap-found-requires c = (search rules, search rules, swaps _ _ _ _ (search rules) (ap (λ v. v.live) c.loop-cell.invariant.2 ∙ swept_live _ _ ∙ c.requires.live))

pub loop-cell-init : goal.loop-cell-init
loop-cell-init c = (refl, refl, sym (swept_none _))

pub loop-cell-preserved : goal.loop-cell-preserved
loop-cell-preserved c =
    let is = passed_of _ _ _ _ c.if-found-gt0.false c.swap-found.ensures.2 in
    let i = c.loop-cell.invariant in
    (c.swap-found.ensures.0 ∙ i.0, ap (λ m. m.1) is ∙ i.1, ap (λ m. m.0) is ∙ ap (passed c.loop-cell.cell) i.2 ∙ sym (swept_more _ _))
