use Rattle.common_lists.proofs.ListLaws.{ok_weaker}
use Rattle.log_merge.specs.Tiles.{has}
use Rattle.plan_rule.specs.Yards.{choices}
use Rattle.branch_workers.proofs.CrewLaws.{all_told, balanced, ready_still, still_seated_too}
use Rattle.branch_workers.proofs.TraceLaws.{traced}
use Rattle.branch_workers.proofs.crewed.reported.Goals as goal

pub returns-clause-ready : goal.returns-clause-ready
returns-clause-ready g c = ready_still c.run_over.new.workers c.collect.new.workers c.run_over.new.piles c.collect.ensures.owners c.run_over.ensures.ready

pub returns-clause-seated : goal.returns-clause-seated
returns-clause-seated g c = still_seated_too _ _ _ c.collect.ensures.owners c.run_over.ensures.seated

pub returns-clause-balanced : goal.returns-clause-balanced
returns-clause-balanced g c = ok_weaker c.collect.result _ _ (λ v h. balanced c.run_over.new.workers c.collect.new.workers c.run_over.new.piles v.reports c.in_ok-run_over.ensures.told c.collect.ensures.owners (λ x. h (has x))) c.collect.ensures.weighed

pub returns-clause-told : goal.returns-clause-told
returns-clause-told g c = ok_weaker c.collect.result _ _ (λ v h. all_told (choices c.args.codes.now) c.run_over.new.workers c.collect.new.workers v.reports c.in_ok-run_over.ensures.honest h c.collect.ensures.owners) c.collect.ensures.from

pub returns-clause-traced : goal.returns-clause-traced
returns-clause-traced g c = ok_weaker c.collect.result _ _ (λ v h. traced (choices c.args.codes.now) c.args.split c.run_over.new.workers c.collect.new.workers c.run_over.new.piles v.reports c.in_ok-run_over.ensures.traced c.collect.ensures.owners h) c.collect.ensures.from
