use Rattle.std.proofs.Common.{take}
use Rattle.lattice_free.specs.Clear.{AreForbidden}
use Rattle.lattice_free.proofs.forbidden.gather.Given as goal

abbrev pub invariant-loop-o : goal.invariant-loop-o
invariant-loop-o l = AreForbidden (take l.o-index l.fixed) l.pitch l.row l.columns l.forbidden.items
