use Rattle.refutation_log.proofs.RecordLaws.{side-takes}
use Rattle.refutation_log.proofs.LiteralLaws.{literals-from_side}
use Rattle.refutation_log.proofs.lists.side_of.Goals as goal

pub from_list-requires : goal.from_list-requires
from_list-requires c =
    literals-from_side c.in_ok-list.list.items (side-takes c.args.text.now c.in_ok-list.list.items c.in_ok-list.ensures).1
