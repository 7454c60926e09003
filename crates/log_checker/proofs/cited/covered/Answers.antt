use Rattle.std.proofs.Common.{refl}
use Rattle.plan_rule.specs.Yards.{choices}
use Rattle.log_checker.proofs.CiteLaws.{covered_branch, covered_side}
use Rattle.log_checker.proofs.cited.covered.Goals as goal

pub returns-in-Branch : goal.returns-in-Branch
returns-in-Branch c =
    covered_branch (choices c.args.codes.now) c.args.entry.now c.in-Branch.of c.in-Branch.lo c.in-Branch.hi c.in-Branch.outer c.in-Branch.cites
    c.args.side.now c.args.block c.span_with.result c.in-Branch.is c.requires.entry c.span_with.ensures

pub returns-in-Fit : goal.returns-in-Fit
returns-in-Fit c =
    covered_side (choices c.args.codes.now) c.args.entry.now _ c.in-Fit.outer c.args.side.now c.args.block c.span_of.result c.in-Fit.is refl c.span_of.ensures

pub returns-in-Energy : goal.returns-in-Energy
returns-in-Energy c =
    covered_side (choices c.args.codes.now) c.args.entry.now _ c.in-Energy.outer c.args.side.now c.args.block c.span_of-in-Energy.result c.in-Energy.is refl
    c.span_of-in-Energy.ensures
