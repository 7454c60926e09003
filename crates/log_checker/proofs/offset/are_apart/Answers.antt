use Rattle.log_checker.proofs.OffsetLaws.{so_apart}
use Rattle.log_checker.proofs.offset.are_apart.Goals as goal

pub returns : goal.returns
returns c =
    so_apart c.args.codes.now c.args.of c.shape-first.result.now c.shape-second.result.now c.apart.result c.requires c.shape-first.ensures
    c.shape-second.ensures c.apart.ensures.apart
