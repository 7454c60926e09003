use Rattle.std.proofs.Common.{◌≡◌, Some, sym, subst}
use Rattle.std.specs.Prelude.{slice_get}
use Rattle.plan_rule.specs.Yards.{choices}
use Rattle.branch_kernel.proofs.SettleLaws.{by_a_box}
use Rattle.branch_kernel.proofs.covering.cover_by_box.Goals as goal

pub returns-then-contains-clause-covered : goal.returns-then-contains-clause-covered
returns-then-contains-clause-covered c = λ start now same ready node grows.
    by_a_box (choices c.args.codes.now) c.args.job start now c.args.side.now c.args.child.now _ c.args.block c.args.code c.args.place c.in_ok-known.known.now ready.known node c.add_all.ensures.added
    c.requires.child ready.stored grows
    (subst (λ list. slice_get list c.args.place ≡ Some c.in_ok-known.known.now) (sym same) c.in_ok-known.ensures) (c.contains.ensures.0 c.if-contains.true)
