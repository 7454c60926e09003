-- Numbers of 32 bits that are filled from the highest bit down.
use Rattle.std.specs.Prelude.{ℕ, ◌+◌, ◌^◌, ◌≤◌, Bool, List}
use Rattle.plan_rule.specs.declared.path_number.Bits.{Bits}
use Rattle.plan_rule.specs.Paths.{halvings, all_halvings, number_of}

-- the bits that are left fit below the number's end
pub record IsOpen (bits : Bits) : Type 0 where
  pub left : bits.left ≤ 32
  pub room : bits.number + 2 ^ bits.left ≤ 2 ^ 32

-- the number once these bits follow
abbrev pub filled : Bits → List Bool → ℕ
filled bits more = bits.number + number_of bits.left more

-- the bits that halve a block's codes down to a code
unfoldable pub code_bits : ℕ → ℕ → List Bool
code_bits count code = halvings 32 0 count code

-- the bits of a plan, block by block
unfoldable pub plan_bits : List ℕ → List ℕ → List Bool
plan_bits counts plan = all_halvings 32 counts plan
