-- Sets without a block.
use Rattle.std.proofs.Common.{◌≡◌, ℕ, zero, suc, Bool, false, List, refl}
use Rattle.std.specs.Prelude.{replicate}
use Rattle.branch_kernel.specs.Marks.{has}

-- where no mark is set, no block is marked
pub unmarked : (n b : ℕ) → has (replicate n false) b ≡ false
unmarked zero b = refl
unmarked (suc n) zero = refl
unmarked (suc n) (suc b) = unmarked n b
