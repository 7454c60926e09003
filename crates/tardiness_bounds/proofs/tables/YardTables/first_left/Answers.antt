use Rattle.std.proofs.Common.{arith}
use Rattle.tardiness_bounds.proofs.LeftLaws.{first_read}
use Rattle.tardiness_bounds.proofs.tables.YardTables.first_left.Goals as goal

pub returns : goal.returns
returns c =
    first_read _ c.args.self.now c.self.inside.lefts.items c.as_slice-lefts.result.now c.args.block _ c.self.view_is c.as_slice-lefts.ensures.value
    c.self.invariant.lefts_are (let l = c.if-block-lefts.false in omega arith)
