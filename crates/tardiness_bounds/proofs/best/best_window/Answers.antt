use Rattle.std.proofs.Common.{List, None, subst}
use Rattle.plan_rule.specs.declared.literal.Literal.{Literal}
use Rattle.plan_rule.specs.Yards.{choices}
use Rattle.tardiness_bounds.specs.BestWindows.{AnyWindow, IsBestAmong}
use Rattle.tardiness_bounds.proofs.BestLaws.{best_never}
use Rattle.tardiness_bounds.proofs.best.best_window.Goals as goal

pub returns-in_default : goal.returns-in_default
returns-in_default c = best_never (choices c.args.codes.now) c.args.part.now c.in_default.ensures.base

pub returns-in-None : goal.returns-in-None
returns-in-None c = subst (λ (box : List Literal). IsBestAmong (choices c.args.codes.now) box AnyWindow None) c.of-side.ensures.literals c.in-None.ensures
