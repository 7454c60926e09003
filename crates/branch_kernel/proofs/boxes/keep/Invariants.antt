use Rattle.std.proofs.Common.{◌≡◌, take}
use Rattle.branch_kernel.specs.Boxes.{kept}
use Rattle.branch_kernel.specs.Marks.{has}
use Rattle.branch_kernel.proofs.boxes.keep.Given as goal

abbrev pub invariant-loop-l : goal.invariant-loop-l
invariant-loop-l l = l.list.items ≡ kept (has l.blocks) (take l.l-index l.l-items)
