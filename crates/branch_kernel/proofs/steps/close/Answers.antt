use Rattle.std.proofs.Common.{subst, sym}
use Rattle.plan_rule.specs.Yards.{choices}
use Rattle.plan_rule.specs.Boxes.{AreAmong}
use Rattle.branch_kernel.proofs.DropLaws.{short_place, place_blocks}
use Rattle.branch_kernel.proofs.steps.close.Goals as goal

pub keep_box-requires : goal.keep_box-requires
keep_box-requires c =
    subst (AreAmong 32) (sym c.in_ok-part.ensures)
    (place_blocks (choices c.args.codes.now) _ _ _ _ c.requires.few (short_place (choices c.args.codes.now) _ _ _ _ _ _ c.in_ok-short.ensures c.requires.place))
