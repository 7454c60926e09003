use Rattle.plan_rule.proofs.PathLaws.{path-less}
use Rattle.plan_rule.specs.Yards.{choices}
use Rattle.plan_rule.proofs.laws.paths_follow_codes.Goals as goal

pub returns : goal.returns
returns c = path-less (choices c.args.codes.now)
