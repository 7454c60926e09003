use Rattle.std.proofs.Common.{◌∙◌, sym, ap, subst}
use Rattle.std.proofs.lemmas.List.{take_all}
use Rattle.plan_rule.specs.Boxes.{AreLiterals}
use Rattle.branch_kernel.specs.Boxes.{kept}
use Rattle.branch_kernel.specs.Marks.{has}
use Rattle.branch_kernel.proofs.SplitLaws.{literals_kept}
use Rattle.branch_kernel.proofs.boxes.keep.Goals as goal

pub from_list-requires : goal.from_list-requires
from_list-requires c =
    let all = take_all c.loop-l.l-index c.literals-l-items.result.now c.loop-l-test.false in
    subst AreLiterals (sym (c.loop-l.invariant ∙ ap (kept (has c.args.blocks.now)) all))
    (literals_kept (has c.args.blocks.now) c.literals-l-items.result.now c.literals-l-items.ensures.ordered)
