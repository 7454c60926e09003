use Rattle.branch_kernel.proofs.NodeLaws.{branch_written}
use Rattle.branch_kernel.proofs.records.write_branch.Goals as goal

pub returns : goal.returns
returns c = branch_written _ _ _ _ _ _ _ _ c.from_list-cites.ensures c.in_order.ensures.same c.push.ensures.number c.push.ensures.ok c.push.ensures.err
