use Rattle.std.proofs.Common.{ap, length, subst}
use Rattle.plan_rule.specs.Yards.{choices}
use Rattle.branch_core.specs.Proper.{AreProper}
use Rattle.branch_core.proofs.AnswerLaws.{proper_text}
use Rattle.search_tests.proofs.jobs.log_text.Goals as goal

pub write_log-requires : goal.write_log-requires
write_log-requires c =
    proper_text (choices c.args.codes.now) c.solve.new.log (subst (λ n. AreProper (choices c.args.codes.now) n c.solve.new.log) (ap length c.new-log.ensures) c.solve.ensures.proper)
