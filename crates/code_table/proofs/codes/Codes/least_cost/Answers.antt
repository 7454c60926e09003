use Rattle.common_lists.proofs.ListLaws.{element_at}
use Rattle.code_table.proofs.CostLaws.{least_none, least_low, least_attained, least_few}
use Rattle.code_table.proofs.codes.Codes.least_cost.Goals as goal

pub returns : goal.returns
returns c =
    let (b, at) = element_at c.args.self.now.blocks c.args.block c.requires in
    let t = c.table.ensures.is b at in
    record {
      none = least_none c.args.self.now c.args.block b c.table.result.now.least at t.least_is;
      least = least_low c.args.self.now c.args.block b c.table.result.now.least at t.least_is;
      attained = least_attained c.args.self.now c.args.block b c.table.result.now.least at t.least_is;
      few = least_few c.args.self.now c.args.block b c.table.result.now.least c.table.ensures.limits at t.least_is;
    }
