use Rattle.std.proofs.Common.{◌≡◌, ap, arith}
use Rattle.plan_rule.specs.Choices.{blocks}
use Rattle.plan_rule.specs.Yards.{choices}
use Rattle.plan_rule.proofs.CountLaws.{blocks-length}
use Rattle.tardiness_bounds.proofs.frontier.last_from.Goals as goal

pub overflow_sub-result : goal.overflow_sub-result
overflow_sub-result c =
    let e : blocks (choices c.codes.result.now) ≡ blocks (choices c.args.tables.now.yard) = ap (λ y. blocks (choices y)) c.codes.ensures in
    let n = blocks-length c.args.tables.now.yard in
    let v = c.block_count.ensures.value in
    let l = c.requires in
    omega arith

pub returns : goal.returns
returns c =
    let e : blocks (choices c.codes.result.now) ≡ blocks (choices c.args.tables.now.yard) = ap (λ y. blocks (choices y)) c.codes.ensures in
    let n = blocks-length c.args.tables.now.yard in
    let v = c.block_count.ensures.value in
    let l = c.requires in
    omega arith
