use Rattle.std.proofs.Common.{◌≡◌, rules}
use Rattle.plan_rule.specs.Yards.{choices}
use Rattle.refutation_log.specs.Logs.{appended}
use Rattle.refutation_log.proofs.AppendedLaws.{appended_steps}
use Rattle.refutation_log.proofs.log.Log.append.Goals as goal

pub returns-clause-steps : goal.returns-clause-steps
returns-clause-steps c = λ yard t old more.
    let is : c.append.new.self.items ≡ appended c.args.self.now c.args.other.now = search rules in
    rw is (appended_steps (choices yard) t c.args.self.now c.args.other.now old more)
