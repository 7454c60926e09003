use Rattle.std.proofs.Common.{◌≡◌, None}
use Rattle.common_lists.specs.Firsts.{first_below}
use Rattle.yard_file.specs.Sizes.{too_many}
use Rattle.yard_file.proofs.sizes.first_too_many.Given as goal

abbrev pub invariant-loop-block : goal.invariant-loop-block
invariant-loop-block l = first_below l.block (too_many l.yard) ≡ None
