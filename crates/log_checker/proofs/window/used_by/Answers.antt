use Rattle.std.proofs.Common.{sym}
use Rattle.plan_rule.specs.Yards.{choices}
use Rattle.plan_rule.proofs.RestLaws.{exact_exists}
use Rattle.log_checker.proofs.window.used_by.Goals as goal

pub taken-requires : goal.taken-requires
taken-requires c = exact_exists (choices c.args.codes.now) c.args.side.now c.args.block c.in-Some.code c.requires.side (sym c.in-Some.ensures)
