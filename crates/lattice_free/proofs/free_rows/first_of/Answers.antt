use Rattle.std.proofs.Common.{◌+◌, List, sym, ◌∙◌, drop, get_or, find}
use Rattle.std.proofs.lemmas.List.{at_drop_more}
use Rattle.lattice_free.specs.declared.run.Run.{Run}
use Rattle.lattice_free.specs.Order.{is_from}
use Rattle.lattice_free.specs.Runs.{points_of, run_points}
use Rattle.lattice_free.proofs.RunLaws.{found_first, found_later}
use Rattle.lattice_free.proofs.free_rows.first_of.Goals as goal

pub returns-then-is_some : goal.returns-then-is_some
returns-then-is_some c =
    let q = is_from c.args.y c.args.x in
    let o : Run = record { row = 0; from = 0; to = 0 } in
    let rs = c.args.runs.now in
    let i = c.loop-run.run-index in
    sym (found_first q c.first_in-found.result (run_points c.args.pitch (get_or rs i o)) (points_of c.args.pitch (drop (i + 1) rs)) c.first_in-found.ensures (sym c.if-is_some.ensures))
    ∙ sym (at_drop_more (λ (ss : List Run). find q (points_of c.args.pitch ss)) rs i o c.loop-run-test.true)
    ∙ c.loop-run.invariant

pub loop-run-preserved : goal.loop-run-preserved
loop-run-preserved c =
    let q = is_from c.args.y c.args.x in
    let o : Run = record { row = 0; from = 0; to = 0 } in
    let rs = c.args.runs.now in
    let i = c.loop-run.run-index in
    sym (found_later q c.first_in-found.result (run_points c.args.pitch (get_or rs i o)) (points_of c.args.pitch (drop (i + 1) rs)) c.first_in-found.ensures (sym c.if-is_some.ensures))
    ∙ sym (at_drop_more (λ (ss : List Run). find q (points_of c.args.pitch ss)) rs i o c.loop-run-test.true)
    ∙ c.loop-run.invariant
