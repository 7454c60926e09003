use Rattle.std.proofs.Common.{sym, subst}
use Rattle.plan_rule.specs.Yards.{choices}
use Rattle.branch_core.specs.Solved.{IsSolvable}
use Rattle.branch_core.proofs.AnswerLaws.{root_solvable}
use Rattle.search_tests.proofs.solved.seen_of.Goals as goal

pub solve-requires-clause-region : goal.solve-requires-clause-region
solve-requires-clause-region c = subst (IsSolvable (choices c.args.codes.now)) (sym c.root.ensures.value) (root_solvable (choices c.args.codes.now))
