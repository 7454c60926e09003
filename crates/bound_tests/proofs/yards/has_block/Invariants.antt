use Rattle.std.proofs.Common.{◌≡◌, drop}
use Rattle.shape_exact.specs.Yards.{has_name, block_names}
use Rattle.bound_tests.proofs.yards.has_block.Given as goal

-- the name is among the blocks that are left exactly where it is among all
abbrev pub invariant-loop-block : goal.invariant-loop-block
invariant-loop-block l =
    has_name (block_names (drop l.block-index l.blocks)) l.name ≡ has_name (block_names l.blocks) l.name
