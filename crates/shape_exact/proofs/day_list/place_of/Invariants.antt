use Rattle.std.proofs.Common.{◌≡◌, ◌+◌, drop}
use Rattle.shape_exact.specs.Days.{place_of}
use Rattle.shape_exact.proofs.day_list.place_of.Given as goal

abbrev pub invariant-loop-i : goal.invariant-loop-i
invariant-loop-i l = l.i + place_of l.day (drop l.i l.days) ≡ place_of l.day l.days
