use Rattle.plan_rule.proofs.RegionBoxLaws.{region_box_holds}
use Rattle.plan_rule.specs.Yards.{choices}
use Rattle.plan_rule.proofs.laws.region_box_holds_region.Goals as goal

pub returns : goal.returns
returns c = region_box_holds (choices c.args.codes.now) c.args.job
