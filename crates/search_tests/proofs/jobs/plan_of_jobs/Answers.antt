use Rattle.std.proofs.Common.{ap, ◌∙◌, sym, subst}
use Rattle.std.specs.Prelude.{IfSome}
use Rattle.nogood_store.specs.Hits.{PlainStore}
use Rattle.plan_rule.specs.Plans.{IsPlan}
use Rattle.plan_rule.specs.Reports.{IsBar}
use Rattle.plan_rule.specs.Yards.{choices}
use Rattle.branch_kernel.specs.Bars.{PlainBar}
use Rattle.branch_kernel.specs.Stored.{IsStored}
use Rattle.branch_kernel.proofs.GrowthLaws.{stored_ends}
use Rattle.search_tests.proofs.JobLaws.{report_plan}
use Rattle.search_tests.proofs.jobs.plan_of_jobs.Goals as goal
use Rattle.search_tests.proofs.jobs.plan_of_jobs.Goals.{then-is_part+in_ok-report, else-is_part}

pub first_of-best-requires-clause-two : goal.first_of-best-requires-clause-two
first_of-best-requires-clause-two c = report_plan (choices c.args.codes.now) _ _ _ c.in_ok-report.report c.in_ok-report.ensures.solved

pub loop-number-preserved : goal.loop-number-preserved
loop-number-preserved c =
    elim c.if-is_part.branch [
      | then-is_part+in_ok-report w ↦ record {
        yard = ap (λ (b : PlainBar). b.yard) w.bars-is ∙ w.solve.ensures.served;
        bar = subst (λ (b : PlainBar). IsBar (choices c.args.codes.now) b.bar) (sym w.bars-is) w.solve.ensures.bar;
        depth = ap (λ (s : PlainStore). s.prefix) w.store-is ∙ w.solve.ensures.depth;
        stored = subst (λ (s : PlainStore). IsStored (choices c.args.codes.now) c.if-is_part.log s.nogoods) (sym w.store-is)
            (subst (λ log. IsStored (choices c.args.codes.now) log w.solve.new.store.nogoods) (sym w.log-is)
            (stored_ends (choices c.args.codes.now) _ _ w.in_ok-report.ensures.solved.ends c.loop-number.invariant.stored));
        plan = subst (λ b. IfSome b (IsPlan (choices c.args.codes.now))) (sym w.best-is) w.first_of-best.ensures;
      }
      | else-is_part w ↦ record {
        yard = ap (λ (b : PlainBar). b.yard) w.bars-is ∙ c.loop-number.invariant.yard;
        bar = subst (λ (b : PlainBar). IsBar (choices c.args.codes.now) b.bar) (sym w.bars-is) c.loop-number.invariant.bar;
        depth = ap (λ (s : PlainStore). s.prefix) w.store-is ∙ c.loop-number.invariant.depth;
        stored = subst (λ (s : PlainStore). IsStored (choices c.args.codes.now) c.if-is_part.log s.nogoods) (sym w.store-is)
            (subst (λ log. IsStored (choices c.args.codes.now) log c.loop-number.store.nogoods) (sym w.log-is) c.loop-number.invariant.stored);
        plan = subst (λ b. IfSome b (IsPlan (choices c.args.codes.now))) (sym w.best-is) c.loop-number.invariant.plan;
      }
    ]
