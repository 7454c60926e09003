use Rattle.std.proofs.Common.{sym, subst}
use Rattle.plan_rule.specs.Boxes.{IsBox}
use Rattle.plan_rule.specs.Yards.{choices}
use Rattle.branch_kernel.proofs.DropLaws.{kept_box}
use Rattle.branch_search.proofs.FitLaws.{short_beaten}
use Rattle.branch_search.proofs.fits.beaten_part.Goals as goal

pub fit_of-requires-clause-part : goal.fit_of-requires-clause-part
fit_of-requires-clause-part c = subst (IsBox (choices c.args.codes.now)) (sym c.in_ok-side.ensures) (kept_box (choices c.args.codes.now) _ c.args.part.now c.requires.part)

pub beats-requires-clause-part : goal.beats-requires-clause-part
beats-requires-clause-part c = subst (IsBox (choices c.args.codes.now)) (sym c.in_ok-side.ensures) (kept_box (choices c.args.codes.now) _ c.args.part.now c.requires.part)

pub returns : goal.returns
returns c =
    short_beaten (choices c.args.codes.now) c.args.bar c.args.best.now c.args.part.now c.in_ok-side.side _ c.in-Some.tie _ c.in_ok-side.ensures c.requires.part c.in_ok-fit.ensures c.in-Some.ensures.some
