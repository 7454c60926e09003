use Rattle.std.proofs.Common.{subst}
use Rattle.std.specs.Prelude.{IfOk}
use Rattle.plan_rule.specs.Bounds.{IsFit}
use Rattle.plan_rule.specs.Yards.{choices}
use Rattle.tardiness_bounds.specs.Numbers.{number}
use Rattle.tardiness_bounds.proofs.fit_of.fit.Goals as goal

pub returns : goal.returns
returns c = subst (λ y. IfOk c.fit_among.result (λ bound. IsFit (choices y) c.args.part.now (number bound))) c.in_ok-tables.ensures c.fit_among.ensures
