use Rattle.std.proofs.Common.{ap, ◌∙◌, ◌++◌, subst}
use Rattle.plan_rule.specs.Reports.{IsBar}
use Rattle.plan_rule.specs.Yards.{choices}
use Rattle.branch_workers.proofs.ReportLaws.{bar_here, known_solvable, searched_if, sound_if}
use Rattle.branch_workers.proofs.reporting.search.Goals as goal

pub solve_with-report-requires-clause-region : goal.solve_with-report-requires-clause-region
solve_with-report-requires-clause-region c = known_solvable _ c.args.job c.requires.known

pub returns-clause-sound : goal.returns-clause-sound
returns-clause-sound c =
    sound_if _ c.args.job _ _ c.args.store.now _ _ c.solve_with-report.new.store _ c.solve_with-report.result c.beside-bars.ensures.least c.requires.stocked c.solve_with-report.ensures.solved

pub returns-clause-searched : goal.returns-clause-searched
returns-clause-searched c =
    searched_if _ c.args.job _ _ _ c.args.store.now c.solve_with-report.new.store _ c.solve_with-report.new.bars.seat.seen _ c.solve_with-report.result c.keys_are_small.ensures c.requires.known
    (bar_here c.args.seat.now.place c.args.board.now c.args.codes.now _ c.requires.board.0 c.requires.board.1 c.beside-bars.ensures.bar)
    c.beside-bars.ensures.least c.requires.stocked c.solve_with-report.ensures.solved c.solve_with-report.ensures.proper c.solve_with-report.ensures.depth c.solve_with-report.new.bars.some
    (ap (λ s. s.seen) c.join.ensures ∙ ap (λ s. s.seen ++ c.solve_with-report.new.bars.seat.seen) c.beside-bars.ensures.seat)
