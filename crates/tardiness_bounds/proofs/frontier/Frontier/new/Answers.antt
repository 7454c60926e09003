use Rattle.std.proofs.Common.{subst}
use Rattle.shape_exact.specs.Yards.{IsYard}
use Rattle.tardiness_bounds.proofs.StackLaws.{stack_start}
use Rattle.tardiness_bounds.proofs.frontier.Frontier.new.Goals as goal

pub invariant_of-result : goal.invariant_of-result
invariant_of-result c =
    stack_start c.args.tables.now _ c.in_ok-lefts.lefts.items _ (subst IsYard c.codes.ensures c.limits.ensures.limits) c.new.ensures c.in_ok-lefts.ensures.room
    c.in_ok-lefts.ensures.len c.in_ok-lefts.ensures.lefts
