use Rattle.lattice_free.specs.Grid.{IsGrid}
use Rattle.lattice_free.proofs.free_rows.runs_of.Given as goal

abbrev pub invariant-loop-row : goal.invariant-loop-row
invariant-loop-row l = IsGrid l.fixed l.pitch l.columns l.row l.runs.items
