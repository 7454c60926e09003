use Rattle.std.proofs.Common.{List, ◌+◌, ◌++◌, sym, ap, ◌∙◌, subst, arith}
use Rattle.lattice_free.specs.declared.run.Run.{Run}
use Rattle.lattice_free.specs.declared.forbidden.Forbidden.{Forbidden}
use Rattle.lattice_free.specs.Gaps.{gaps}
use Rattle.lattice_free.specs.Grid.{IsGrid}
use Rattle.lattice_free.proofs.GridLaws.{grid_more}
use Rattle.lattice_free.proofs.free_rows.runs_of.Goals as goal

pub loop-row-preserved : goal.loop-row-preserved
loop-row-preserved c =
    let ss = c.forbid.new.forbidden.items in
    let row = c.loop-row.row in
    let e = c.in_ok-add_gaps.ensures ∙ ap (λ (ts : List Forbidden). c.loop-row.runs.items ++ gaps row 0 c.args.columns ts) c.deref.ensures.value in
    subst (λ (rs : List Run). IsGrid c.args.fixed.now c.args.pitch c.args.columns (row + 1) rs) (sym e)
    (grid_more c.args.fixed.now c.args.pitch c.args.columns row c.loop-row.runs.items ss c.requires.pitch c.requires.columns (let a = c.requires.rows in let b = c.loop-row-test.true in omega arith) c.loop-row.invariant c.in_ok-forbid.ensures.forbidden c.in_ok-forbid.ensures.ascending)
