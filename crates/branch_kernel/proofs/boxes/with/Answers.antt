use Rattle.std.proofs.Common.{sym, subst}
use Rattle.plan_rule.specs.Boxes.{AreLiterals}
use Rattle.branch_kernel.proofs.SplitLaws.{literals_with, in_place}
use Rattle.branch_kernel.proofs.boxes.with.Goals as goal

pub from_list-requires : goal.from_list-requires
from_list-requires c =
    subst AreLiterals (sym (in_place _ _ _ _ _ _ _ c.args.literal c.new-list.ensures.items c.literals.ensures.value c.in_ok-add_before.ensures c.in_ok-push.ensures.items c.literals-2.ensures.value c.in_ok-add_after.ensures))
    (literals_with c.args.side.now c.args.literal (subst AreLiterals c.literals.ensures.value c.literals.ensures.ordered) c.requires)
