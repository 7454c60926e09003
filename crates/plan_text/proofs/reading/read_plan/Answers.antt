use Rattle.std.proofs.Common.{ap, subst, ◌∙◌}
use Rattle.plan_text.specs.Reading.{Gives, plan_of}
use Rattle.plan_text.proofs.WholeLaws.{is_found, plan-again}
use Rattle.plan_text.proofs.reading.read_plan.Goals as goal

pub returns-clause-found : goal.returns-clause-found
returns-clause-found c = is_found c.args.codes.now c.args.bytes.now c.plan_of.result c.plan_of.ensures

pub returns-clause-only : goal.returns-clause-only
returns-clause-only c = λ t is e.
    subst (λ r. Gives (λ x. x) c.plan_of.result r) (ap (plan_of c.args.codes.now) e ∙ plan-again c.args.codes.now t c.limits.ensures.limits is) c.plan_of.ensures
