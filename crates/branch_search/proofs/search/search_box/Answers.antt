use Rattle.std.proofs.Common.{◌∙◌, subst, sym}
use Rattle.common_lists.proofs.ListLaws.{ok_weaker}
use Rattle.plan_rule.specs.Yards.{choices}
use Rattle.branch_kernel.specs.Shows.{IsShown}
use Rattle.branch_kernel.proofs.NodeLaws.{runs_self}
use Rattle.branch_kernel.proofs.WalkLaws.{open_inexact, part_open}
use Rattle.branch_search.proofs.CycleLaws.{cut_box}
use Rattle.branch_search.proofs.search.search_box.Goals as goal

pub returns-in_err-part-clause-runs : goal.returns-in_err-part-clause-runs
returns-in_err-part-clause-runs g c = runs_self (choices c.args.codes.now) _ _ c.requires.ready

pub open_or-next-requires-clause-open : goal.open_or-next-requires-clause-open
open_or-next-requires-clause-open g c =
    open_inexact c.args.side.now c.in_ok-part.part c.args.range c.requires.node.side_is.ascending c.requires.node.free c.requires.more c.in_ok-part.ensures

pub refute-requires-clause-open : goal.refute-requires-clause-open
refute-requires-clause-open g c =
    part_open (choices c.args.codes.now) c.args.job c.args.side.now c.in_ok-part.part c.args.range c.requires.node c.requires.more c.requires.cut c.in_ok-part.ensures

pub returns-clause-shown : goal.returns-clause-shown
returns-clause-shown g c =
    ok_weaker c.refute.result _ _ (λ shown h. (
      h.0,
      subst (IsShown (choices c.args.codes.now) _ _ shown.tie shown.number) (c.in_ok-part.ensures ∙ sym (cut_box (choices c.args.codes.now) c.args.side.now c.args.range c.requires.cut)) h.1,
    )) c.refute.ensures.shown
