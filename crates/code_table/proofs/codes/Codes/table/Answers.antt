use Rattle.std.proofs.Common.{◌<◌, subst, length, arith}
use Rattle.shape_exact.specs.Yards.{PlainYard}
use Rattle.code_table.specs.Tables.{IsCoded}
use Rattle.code_table.proofs.ReadLaws.{read_at}
use Rattle.code_table.proofs.codes.Codes.table.Goals as goal

pub returns-clause-is : goal.returns-clause-is
returns-clause-is c = λ b at.
    let family : PlainYard → Type 0 = λ y. IsCoded y c.self.inside.calendars.items c.self.inside.tables.items in
    let coded : IsCoded c.args.self.now c.self.inside.calendars.items c.self.inside.tables.items = subst family c.self.view_is c.self.invariant in
    let long = coded.tables.one_each in
    let l : c.args.block < length c.self.inside.tables.items = omega arith in
    let here = read_at c.self.inside.tables.items _ c.args.block c.index-tables-block.result c.as_slice-tables.ensures.value l c.index-tables-block.is in
    coded.tables.each_is c.args.block b c.index-tables-block.result at here
