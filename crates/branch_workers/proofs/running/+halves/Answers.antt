use Rattle.plan_rule.specs.Yards.{choices}
use Rattle.branch_workers.specs.Gather.{IsDone}
use Rattle.branch_workers.proofs.CrewLaws.{one_worked, both_honest}
use Rattle.branch_workers.proofs.TraceLaws.{all_done}
use Rattle.branch_workers.proofs.running.+halves.Goals as goal

pub run_all-returns-then-workers-eq1-clause-accounted : goal.run_all-returns-then-workers-eq1-clause-accounted
run_all-returns-then-workers-eq1-clause-accounted g t c =
    one_worked c.work_with.result c.args.board.now (choices c.args.codes.now) c.args.split c.args.workers.now c.index-workers-0.result c.work_with.new.worker c.if-workers-eq1.true c.requires.fresh c.work_with.ensures.worked

pub run_all-returns-then-workers-eq1-clause-done : goal.run_all-returns-then-workers-eq1-clause-done
run_all-returns-then-workers-eq1-clause-done g t c =
    all_done c.work_with.result c.args.board.now (choices c.args.codes.now) c.args.split c.args.workers.now c.index-workers-0.result c.work_with.new.worker c.if-workers-eq1.true c.requires.dealt c.work_with.ensures.worked c.work_with.ensures.logged

pub run_all-returns-clause-done : goal.run_all-returns-clause-done
run_all-returns-clause-done g t c =
    both_honest c.both_halves-low.result.0 c.both_halves-low.result.1 c.in_ok-low.field-0 _ _ (IsDone (choices c.args.codes.now) c.args.split) _ _ c.in_ok-low.was c.both_halves-low.ensures.low_done c.both_halves-low.ensures.high_done
