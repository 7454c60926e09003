use Rattle.std.proofs.Common.{sym, ◌∙◌, ap, Some, arith}
use Rattle.shape_exact.specs.declared.point.Point.{Point}
use Rattle.lattice_free.specs.Order.{is_from}
use Rattle.lattice_free.specs.Runs.{place}
use Rattle.lattice_free.proofs.RunLaws.{find_at, find_none}
use Rattle.lattice_free.proofs.run.first_in.Goals as goal

pub returns-then-column-run : goal.returns-then-column-run
returns-then-column-run c =
    let r = c.args.run.now in
    let j = c.first_column-column.result in
    let f = c.first_column-column.ensures in
    ap (λ (p : Point). Some p) c.place.ensures
    ∙ sym (find_at (is_from c.args.y c.args.x) (place c.args.pitch r.row) r.from _ j f.low (omega arith) (λ k l m. f.before k m (omega arith) l) (f.at c.if-column-run.true))

pub returns-else-column-run : goal.returns-else-column-run
returns-else-column-run c =
    let r = c.args.run.now in
    let f = c.first_column-column.ensures in
    sym (find_none (is_from c.args.y c.args.x) (place c.args.pitch r.row) r.from _ (λ k l m. f.before k (omega arith) (omega arith) l))
