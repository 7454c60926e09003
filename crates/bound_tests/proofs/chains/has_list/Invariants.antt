use Rattle.std.proofs.Common.{◌<◌}
use Rattle.std.specs.Prelude.{IfSome}
use Rattle.bound_tests.proofs.chains.has_list.Given as goal

abbrev pub invariant-loop-want : goal.invariant-loop-want
invariant-loop-want l = IfSome l.cursor (λ entry. entry < l.chains.entries)
