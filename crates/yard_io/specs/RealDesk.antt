-- What contracts see of the desk over real files: its counts of faults.
use Rattle.std.specs.Prelude.{ℕ}
use Rattle.yard_io.specs.declared.real.RealDesk.{RealDesk}

abbrev pub reads_of : {R : Type 0} → RealDesk R → ℕ
reads_of desk = desk.faults.reads

abbrev pub writes_of : {R : Type 0} → RealDesk R → ℕ
writes_of desk = desk.faults.writes
