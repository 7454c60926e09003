use Rattle.std.proofs.Common.{◌∙◌, ap, subst}
use Rattle.plan_rule.specs.Reports.{IsBar}
use Rattle.plan_rule.specs.Yards.{choices}
use Rattle.branch_kernel.specs.Bars.{PlainBar}
use Rattle.branch_kernel.proofs.BarLaws.{bar_of_two}
use Rattle.branch_kernel.proofs.bars.OneBarBars.offer.Goals as goal

pub invariant_of-self : goal.invariant_of-self
invariant_of-self c =
    bar_of_two c.self.inside.codes.now c.args.codes.now _ _ _ c.args.plan.now (ap (λ (b : PlainBar). b.yard) c.self.view_is ∙ c.requires.served) c.self.invariant c.requires.feasible
    c.key.ensures.value c.min-self-inside.ensures

pub returns-clause-is_bar : goal.returns-clause-is_bar
returns-clause-is_bar c =
    subst (λ yard. IsBar (choices yard) c.min-self-inside.result) (ap (λ (b : PlainBar). b.yard) c.self.view_is)
    (bar_of_two c.self.inside.codes.now c.args.codes.now _ _ _ c.args.plan.now (ap (λ (b : PlainBar). b.yard) c.self.view_is ∙ c.requires.served) c.self.invariant c.requires.feasible
    c.key.ensures.value c.min-self-inside.ensures)
