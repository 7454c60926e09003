use Rattle.std.proofs.Common.{sym, subst}
use Rattle.plan_rule.specs.Yards.{choices}
use Rattle.log_checker.specs.Claims.{plan_of}
use Rattle.log_checker.specs.ExactBlocks.{AreExact}
use Rattle.log_checker.specs.Spans.{AreCited}
use Rattle.log_checker.proofs.BranchLaws.{found_uncovered}
use Rattle.log_checker.proofs.branch.branch_fault.Goals as goal

pub returns-clause-value : goal.returns-clause-value
returns-clause-value c =
    let are = subst (AreExact c.args.judge.now.codes.now c.args.side.now) (sym c.as_slice.ensures.value) c.exact_of-exacts.ensures.exacts in
    let cited = subst (AreCited (choices c.args.judge.now.codes.now) c.args.earlier.now c.args.cites.now c.args.side.now c.args.block) (sym c.as_slice-2.ensures.value)
    c.in_ok-spans.ensures.cited in
    found_uncovered c.args.judge.now.codes.now (plan_of c.args.judge.now.claim) c.args.earlier.now c.args.side.now c.args.cites.now c.args.block c.args.lo c.args.hi
    c.cut_of-cut.result c.as_slice.result.now c.as_slice-2.result.now c.first_uncovered.result c.requires.block c.requires.range c.cut_of-cut.ensures
    are cited c.first_uncovered.ensures.value
