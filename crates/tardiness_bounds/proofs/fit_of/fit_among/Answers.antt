use Rattle.std.proofs.Common.{subst}
use Rattle.plan_rule.specs.Bounds.{IsFit}
use Rattle.plan_rule.specs.Yards.{choices}
use Rattle.tardiness_bounds.specs.Numbers.{number}
use Rattle.tardiness_bounds.proofs.SameLaws.{same_fit}
use Rattle.tardiness_bounds.proofs.fit_of.fit_among.Goals as goal

pub returns : goal.returns
returns c =
    same_fit (choices c.args.tables.now.yard) c.in_ok-frontier.frontier.literals c.args.part.now (number c.bound.result) c.in_ok-frontier.ensures.exacts
    (subst (λ y. IsFit (choices y) c.in_ok-frontier.frontier.literals (number c.bound.result)) c.in_ok-frontier.ensures.yard c.bound.ensures)
