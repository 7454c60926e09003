use Rattle.refutation_log.proofs.RecordLaws.{cites-takes}
use Rattle.refutation_log.proofs.lists.cites_of.Goals as goal

pub from_list-requires : goal.from_list-requires
from_list-requires c = (cites-takes c.args.text.now c.in_ok-list.list.items c.in_ok-list.ensures).1
