use Rattle.std.proofs.Common.{ap, ◌∙◌, sym, subst, length, map, List}
use Rattle.std.specs.List.{All}
use Rattle.branch_core.specs.declared.report.Report.{Report}
use Rattle.branch_core.specs.Solved.{report_of}
use Rattle.plan_rule.specs.Reports.{IsBar, IsBestOf, IsReached}
use Rattle.plan_rule.specs.Yards.{choices}
use Rattle.log_merge.specs.Tiles.{times}
use Rattle.branch_workers.proofs.CrewLaws.{all_deeper, back_seated, back_ready, back_tiled, below_back}
use Rattle.branch_workers.proofs.BestLaws.{best_is, last_is, sound_reached}
use Rattle.branch_workers.proofs.TraceLaws.{all_short, dealt_back, leaves_of, once_back}
use Rattle.branch_core.proofs.AnswerLaws.{proper_text, best_answers}
use Rattle.branch_workers.proofs.crewed.crew.Goals as goal

pub reported-collected-requires-clause-dealt : goal.reported-collected-requires-clause-dealt
reported-collected-requires-clause-dealt g c κs within =
    all_deeper (choices c.args.codes.now) c.depth-depth.result c.longest.result c.in_ok-jobs.jobs.items _ c.longest.ensures.0 c.as_slice.ensures.value c.in_ok-jobs.ensures.dealt

pub reported-collected-requires-clause-once : goal.reported-collected-requires-clause-once
reported-collected-requires-clause-once g c κs within = λ x. ap (times x) c.as_slice.ensures.value ∙ c.in_ok-jobs.ensures.count x

pub settle-stolen-requires-clause-seats : goal.settle-stolen-requires-clause-seats
settle-stolen-requires-clause-seats g c =
    back_seated _ c.reported-collected.new.workers c.in_ok-crew.crew.len _ (c.reported-collected.ensures.sizes.0 ∙ ap length c.as_mut_slice.ensures.value ∙ sym c.in_ok-crew.crew.ok.0) c.reported-collected.ensures.seated

pub settle-stolen-requires-clause-ready : goal.settle-stolen-requires-clause-ready
settle-stolen-requires-clause-ready g c =
    (back_ready c.reported-collected.new.workers c.reported-collected.new.piles c.in_ok-crew.crew.len c.in_ok-crew.piles.len _ _
    (c.reported-collected.ensures.sizes.0 ∙ ap length c.as_mut_slice.ensures.value ∙ sym c.in_ok-crew.crew.ok.0)
    (c.reported-collected.ensures.sizes.1 ∙ ap length c.as_mut_slice-2.ensures.value ∙ sym c.in_ok-crew.piles.ok.0) c.reported-collected.ensures.ready).0

pub best_of-requires : goal.best_of-requires
best_of-requires g c =
    subst (All (λ (r : Report). IsReached (choices c.args.codes.now) (report_of r))) (sym c.list.ensures) (sound_reached (choices c.args.codes.now) c.in_ok-reports.field-0.reports c.in_ok-reports.ensures.told.sound)

pub merge_leaves-requires : goal.merge_leaves-requires
merge_leaves-requires g c =
    leaves_of (choices c.args.codes.now) c.longest.result c.in_ok-reports.field-0.reports _ _ c.in_ok-reports.ensures.collected
    (dealt_back (choices c.args.codes.now) c.longest.result c.reported-collected.new.workers c.reported-collected.new.piles c.in_ok-crew.crew.len c.in_ok-crew.piles.len _ _ c.in_ok-reports.field-0.reports
    (c.reported-collected.ensures.sizes.0 ∙ ap length c.as_mut_slice.ensures.value ∙ sym c.in_ok-crew.crew.ok.0)
    (c.reported-collected.ensures.sizes.1 ∙ ap length c.as_mut_slice-2.ensures.value ∙ sym c.in_ok-crew.piles.ok.0) c.in_ok-reports.ensures.traced c.settle-stolen.ensures.settled)
    (once_back c.reported-collected.new.workers c.reported-collected.new.piles c.in_ok-crew.crew.len c.in_ok-crew.piles.len _ _ c.in_ok-reports.field-0.reports
    (c.reported-collected.ensures.sizes.0 ∙ ap length c.as_mut_slice.ensures.value ∙ sym c.in_ok-crew.crew.ok.0)
    (c.reported-collected.ensures.sizes.1 ∙ ap length c.as_mut_slice-2.ensures.value ∙ sym c.in_ok-crew.piles.ok.0) c.in_ok-reports.ensures.balanced c.settle-stolen.ensures.settled)

pub returns-clause-tile : goal.returns-clause-tile
returns-clause-tile g c =
    back_tiled c.reported-collected.new.workers c.reported-collected.new.piles c.in_ok-crew.crew.len c.in_ok-crew.piles.len _ _ c.in_ok-reports.field-0.reports
    (c.reported-collected.ensures.sizes.0 ∙ ap length c.as_mut_slice.ensures.value ∙ sym c.in_ok-crew.crew.ok.0)
    (c.reported-collected.ensures.sizes.1 ∙ ap length c.as_mut_slice-2.ensures.value ∙ sym c.in_ok-crew.piles.ok.0) c.in_ok-reports.ensures.balanced c.settle-stolen.ensures.settled

pub returns-clause-short : goal.returns-clause-short
returns-clause-short g c =
    all_short (choices c.args.codes.now) c.args.split c.longest.result c.in_ok-reports.field-0.reports c.longest.ensures.1
    (dealt_back (choices c.args.codes.now) c.longest.result c.reported-collected.new.workers c.reported-collected.new.piles c.in_ok-crew.crew.len c.in_ok-crew.piles.len _ _ c.in_ok-reports.field-0.reports
    (c.reported-collected.ensures.sizes.0 ∙ ap length c.as_mut_slice.ensures.value ∙ sym c.in_ok-crew.crew.ok.0)
    (c.reported-collected.ensures.sizes.1 ∙ ap length c.as_mut_slice-2.ensures.value ∙ sym c.in_ok-crew.piles.ok.0) c.in_ok-reports.ensures.traced c.settle-stolen.ensures.settled)

pub returns-clause-best : goal.returns-clause-best
returns-clause-best g c =
    let of = subst (λ (l : List Report). IsBestOf (choices c.args.codes.now) (map report_of l) c.in_ok-best.best) c.list.ensures c.in_ok-best.ensures in
    best_is (choices c.args.codes.now) c.in_ok-reports.field-0.reports c.in_ok-best.best c.reports_give_best.ensures (returns-clause-tile g c) c.in_ok-reports.ensures.told.sound of

pub returns-clause-log : goal.returns-clause-log
returns-clause-log g c =
    let best = returns-clause-best g c in
    c.in_ok-merge_leaves.ensures c.in_ok-best.best (best_answers (choices c.args.codes.now) c.in_ok-best.best best) (c.in_ok-reports.ensures.collected.steps c.in_ok-best.best best)

pub returns-clause-last : goal.returns-clause-last
returns-clause-last g c =
    let of = subst (λ (l : List Report). IsBestOf (choices c.args.codes.now) (map report_of l) c.in_ok-best.best) c.list.ensures c.in_ok-best.ensures in
    last_is (choices c.args.codes.now) c.in_ok-best.best c.close-last.result.word c.in_ok-reports.field-0.reports c.keys_are_small.ensures (returns-clause-best g c) of c.in_ok-reports.ensures.told.sound
    (subst (λ y. IsBar (choices y) c.close-last.result.word) c.in_ok-board.ensures.yard c.close-last.ensures.key)
    (below_back (choices c.args.codes.now) c.in_ok-reports.field-0.reports c.reported-collected.new.workers c.in_ok-crew.crew.len _ _ _
    (c.reported-collected.ensures.sizes.0 ∙ ap length c.as_mut_slice.ensures.value ∙ sym c.in_ok-crew.crew.ok.0) c.in_ok-reports.ensures.told c.settle-stolen.ensures.seen c.close-last.ensures.seen)

pub returns-clause-text : goal.returns-clause-text
returns-clause-text g c =
    let accepted = returns-clause-log g c in
    proper_text (choices c.args.codes.now) _ (c.records_are_proper.ensures c.in_ok-best.best (λ i low l. accepted.steps i l))
