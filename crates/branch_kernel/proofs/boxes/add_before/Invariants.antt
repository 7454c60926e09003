use Rattle.std.proofs.Common.{◌≡◌, ◌++◌, take, filter}
use Rattle.std.specs.Prelude.{nat_lt}
use Rattle.branch_kernel.proofs.boxes.add_before.Given as goal

abbrev pub invariant-loop-l : goal.invariant-loop-l
invariant-loop-l l = l.list.items ≡ l.initial.list.items ++ filter (λ m. nat_lt m.block l.block) (take l.l-index l.part)
