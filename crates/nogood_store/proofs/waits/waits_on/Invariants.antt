use Rattle.std.proofs.Common.{◌≡◌, length, drop}
use Rattle.nogood_store.specs.Waits.{past}
use Rattle.nogood_store.proofs.waits.waits_on.Given as goal

abbrev pub invariant-loop-l : goal.invariant-loop-l
invariant-loop-l l = past (length l.codes) l.code (drop l.l-index l.literals) ≡ past (length l.codes) l.code l.literals
