use Rattle.std.proofs.Common.{◌∙◌, sym, ap, subst}
use Rattle.std.proofs.lemmas.List.{take_all}
use Rattle.plan_rule.specs.Boxes.{AreLiterals}
use Rattle.branch_kernel.specs.Boxes.{others, kept}
use Rattle.branch_kernel.proofs.SplitLaws.{literals_kept}
use Rattle.branch_kernel.proofs.boxes.without.Goals as goal

pub from_list-requires : goal.from_list-requires
from_list-requires c =
    let all = take_all c.loop-l.l-index c.literals-l-items.result.now c.loop-l-test.false in
    subst AreLiterals (sym (c.loop-l.invariant ∙ ap (kept (others c.args.block)) all))
    (literals_kept (others c.args.block) c.literals-l-items.result.now c.literals-l-items.ensures.ordered)
