use Rattle.std.proofs.Common.{◌∙◌, ap}
use Rattle.plan_rule.specs.Plans.{code_of}
use Rattle.plan_rule.specs.Boxes.{exact}
use Rattle.plan_rule.specs.Yards.{choices}
use Rattle.branch_core.proofs.RegionLaws.{misfit_single}
use Rattle.branch_kernel.specs.Marks.{has}
use Rattle.branch_core.proofs.single.take_misfit.Goals as goal

pub returns-clause-shown : goal.returns-clause-shown
returns-clause-shown c = λ bar best ready.
    misfit_single (choices c.args.codes.now) c.args.job c.args.front.now c.args.lo c.args.hi c.args.misfit c.exact-range.result bar best c.args.log.now c.close.new.log c.args.store.now c.close.new.store
    (has c.needs_of-needs.result) _ c.close.result c.requires.part ready c.requires.misfit c.needs_of-needs.ensures
    (c.exact-range.ensures ∙ ap (λ k. exact c.args.misfit.place (code_of c.args.front.now k)) c.from.ensures) c.new-cites.ensures.items c.close.ensures
