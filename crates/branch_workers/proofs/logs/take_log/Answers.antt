use Rattle.std.proofs.Common.{rules, refl, sym, append-nil, map, ◌∙◌, ap, subst}
use Rattle.std.specs.Prelude.{slice_index}
use Rattle.log_merge.specs.Leaves.{job_of}
use Rattle.branch_workers.proofs.TakenLaws.{none_taken, one_taken, all_taken, united_exist}
use Rattle.branch_workers.proofs.logs.take_log.Goals as goal

pub loop-report-init : goal.loop-report-init
loop-report-init c =
    (sym (append-nil (map job_of c.args.leaves.now.items)), none_taken c.args.log.now c.args.own.now c.unite.new.log c.in_ok-numbers.numbers.items c.args.leaves.now.items c.args.reports.now c.in_ok-numbers.ensures)

pub loop-report-preserved : goal.loop-report-preserved
loop-report-preserved c =
    one_taken c.args.log.now c.args.own.now c.unite.new.log c.in_ok-numbers.numbers.items c.args.leaves.now.items c.loop-report.leaves.items c.push.new.self.items c.args.reports.now c.loop-report.report-index c.report-item.result _
    c.in_ok-numbers.ensures (search rules) (search rules) refl (c.number_in.ensures ∙ ap (λ ns. slice_index ns c.report-item.result.refutation) c.as_slice.ensures.value) c.in_ok-push.ensures.items c.loop-report.invariant

pub returns-clause-leaves : goal.returns-clause-leaves
returns-clause-leaves c =
    all_taken c.args.log.now c.args.own.now c.unite.new.log c.args.leaves.now.items c.loop-report.leaves.items c.args.reports.now c.loop-report.report-index (search rules) c.loop-report.invariant.1

pub returns-clause-exist : goal.returns-clause-exist
returns-clause-exist c = united_exist c.args.log.now c.args.own.now c.unite.new.log c.in_ok-numbers.numbers.items c.in_ok-numbers.ensures

pub returns-clause-steps : goal.returns-clause-steps
returns-clause-steps c = c.in_ok-numbers.ensures.steps
