use Rattle.std.proofs.Common.{◌≡◌, ◌<◌, ℕ, true}
use Rattle.std.specs.List.{AllWithin}
use Rattle.branch_kernel.specs.Marks.{has}
use Rattle.branch_kernel.proofs.marks.Blocks.add_all.Given as goal

abbrev pub invariant-loop-l : goal.invariant-loop-l
invariant-loop-l l = record {
  keeps : (x : ℕ) → has l.initial.self x ≡ true → has l.self x ≡ true;
  added : AllWithin (λ m. m.block < 32 → has l.self m.block ≡ true) l.l-items 0 l.l-index;
}
