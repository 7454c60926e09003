use Rattle.std.proofs.Common.{◌≡◌, take}
use Rattle.branch_kernel.specs.Boxes.{others, kept}
use Rattle.branch_kernel.proofs.boxes.without.Given as goal

abbrev pub invariant-loop-l : goal.invariant-loop-l
invariant-loop-l l = l.list.items ≡ kept (others l.block) (take l.l-index l.l-items)
