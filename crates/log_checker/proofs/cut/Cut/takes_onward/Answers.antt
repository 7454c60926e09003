use Rattle.std.proofs.Common.{◌<◌, ◌≤◌, sym, subst, inl, arith}
use Rattle.std.proofs.lemmas.Bool.{ltb-true}
use Rattle.plan_rule.specs.Yards.{choices}
use Rattle.log_checker.specs.Cuts.{Takes}
use Rattle.log_checker.proofs.OnwardLaws.{onward_cost}
use Rattle.log_checker.proofs.cut.Cut.takes_onward.Goals as goal

pub returns-in-Above : goal.returns-in-Above
returns-in-Above c t k le is =
    let least : c.least_from.result ≤ (choices c.args.codes.now).cost c.args.block k =
    onward_cost c.args.codes.now c.args.block c.args.code k c.args.start c.least_from.result c.least_from.ensures.limits c.codes_ascend.ensures.order
    c.least_from.ensures.value c.requires.code c.requires.start le is in
    let above : c.in-Above.limit < c.least_from.result = ltb-true c.in-Above.limit c.least_from.result t in
    subst (λ cut. Takes cut ((choices c.args.codes.now).cost c.args.block k) k) (sym c.in-Above.is) (inl (omega arith))
