use Rattle.std.proofs.Common.{sym, subst}
use Rattle.common_lists.proofs.ListLaws.{element_at}
use Rattle.code_table.specs.Orders.{AreAscending, EndsAscend}
use Rattle.code_table.proofs.StandLaws.{placements-of}
use Rattle.code_table.proofs.OrderLaws.{placements_ascend}
use Rattle.code_table.proofs.EndLaws.{ends_ascend}
use Rattle.code_table.proofs.codes.Codes.codes_ascend.Goals as goal

pub returns : goal.returns
returns c =
    let (b, at) = element_at c.args.self.now.blocks c.args.block c.requires in
    let same = sym (placements-of c.args.self.now c.args.block b at) in
    record {
      order = subst AreAscending same (placements_ascend c.args.self.now b c.limits.ensures.limits);
      ends = subst EndsAscend same (ends_ascend c.args.self.now b c.limits.ensures.limits);
    }
