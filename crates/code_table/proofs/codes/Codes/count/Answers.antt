use Rattle.std.proofs.Common.{arith}
use Rattle.common_lists.proofs.ListLaws.{element_at}
use Rattle.code_table.proofs.codes.Codes.count.Goals as goal

pub returns-clause-few : goal.returns-clause-few
returns-clause-few c =
    let (b, at) = element_at c.args.self.now.blocks c.args.block c.requires in
    let t = c.table.ensures.is b at in omega (arith, t.count, t.few)
