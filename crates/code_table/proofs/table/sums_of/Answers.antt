use Rattle.std.proofs.Common.{◌+◌, ◌<◌, arith}
use Rattle.code_table.proofs.StandLaws.{sum_to-more, sum_to-le}
use Rattle.code_table.proofs.table.sums_of.Goals as goal

pub overflow_add-total : goal.overflow_add-total
overflow_add-total c =
    let more = sum_to-more c.args.yard.now c.args.block.now c.loop-k.k in
    let few = sum_to-le c.args.yard.now c.args.block.now (c.loop-k.k + 1) (omega arith) in
    let small : c.loop-k.total + c.stand_len-total.result < 1048577 = omega arith in
    omega arith
