use Rattle.std.proofs.Common.{subst}
use Rattle.plan_rule.specs.Regions.{IsRegion}
use Rattle.plan_rule.specs.Yards.{choices}
use Rattle.search_tests.proofs.jobs.is_part.Goals as goal

pub returns-in-Part : goal.returns-in-Part
returns-in-Part c = λ t none.
    let part = subst (IsRegion (choices c.args.codes.now) c.args.job) c.in-Part.is c.region_of.ensures in
    absurd (none part.some.0 part.some.1)
