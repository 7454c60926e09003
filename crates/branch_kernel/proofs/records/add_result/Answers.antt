use Rattle.std.proofs.Common.{sym, subst}
use Rattle.plan_rule.specs.Yards.{choices}
use Rattle.refutation_log.specs.Steps.{result_of}
use Rattle.branch_kernel.specs.Marks.{MarksAll, has}
use Rattle.branch_kernel.proofs.DropLaws.{marks_branch}
use Rattle.branch_kernel.proofs.records.add_result.Goals as goal

pub returns-in-Branch-clause-added : goal.returns-in-Branch-clause-added
returns-in-Branch-clause-added c =
    subst (λ r. MarksAll (has c.add.new.self) (result_of (choices c.args.codes.now) r)) (sym c.in-Branch.is)
    (marks_branch (choices c.args.codes.now) _ _ c.in-Branch.block c.in-Branch.lo c.in-Branch.hi c.in-Branch.side c.in-Branch.cites
    c.add_all.ensures.added c.add.ensures.keeps c.add.ensures.added)
