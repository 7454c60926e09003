use Rattle.plan_rule.specs.Yards.{choices}
use Rattle.branch_search.proofs.FitLaws.{low_fit, whole_beaten}
use Rattle.branch_search.proofs.fits.beaten_side.Goals as goal

pub returns-in_default-beats : goal.returns-in_default-beats
returns-in_default-beats c = low_fit (choices c.args.codes.now) c.args.part.now _ _ c.in_ok-fit.ensures c.in_default-beats.ensures.none

pub returns : goal.returns
returns c =
    whole_beaten (choices c.args.codes.now) c.args.bar c.args.best.now c.args.part.now c.in_ok-side.side c.in-Some-beats.tie _ c.in_ok-side.ensures c.requires.part c.in_ok-fit.ensures c.in-Some-beats.ensures.some
