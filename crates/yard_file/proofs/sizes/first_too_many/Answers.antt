use Rattle.std.proofs.Common.{◌≡◌, ◌<◌, length, Some, sym, rules}
use Rattle.common_lists.proofs.FirstLaws.{first_is}
use Rattle.yard_file.specs.Sizes.{too_many}
use Rattle.yard_file.proofs.sizes.first_too_many.Goals as goal

pub returns-in-Some : goal.returns-in-Some
returns-in-Some c =
    let below : c.loop-block.block < length c.args.yard.now.blocks = search rules in
    let found : too_many c.args.yard.now c.loop-block.block ≡ Some c.in-Some.fault = search rules in
    sym (first_is _ _ (too_many c.args.yard.now) _ c.loop-block.invariant below found)
