use Rattle.std.proofs.Common.{List, sym, subst, ◌∙◌}
use Rattle.std.proofs.lemmas.Option.{same_Some}
use Rattle.plan_rule.specs.Boxes.{LeavesFree}
use Rattle.plan_rule.specs.Bounds.{MayFit}
use Rattle.plan_rule.specs.Choices.{IsCode}
use Rattle.plan_rule.specs.Yards.{choices}
use Rattle.plan_rule.proofs.CountLaws.{block_exists, code_exists}
use Rattle.tardiness_bounds.specs.declared.standing.Standing.{Standing}
use Rattle.tardiness_bounds.specs.Stacks.{PlainFrontier}
use Rattle.tardiness_bounds.specs.Standings.{IsClear, IsClearAt}
use Rattle.tardiness_bounds.proofs.FitLaws.{clear_code_fits, fits_clear_code}
use Rattle.tardiness_bounds.proofs.frontier.Frontier.may_fit.Goals as goal

pub place-place-requires-clause-block : goal.place-place-requires-clause-block
place-place-requires-clause-block c =
    block_exists c.self.inside.tables.now.yard c.args.block
    (subst (λ (p : PlainFrontier). IsCode (choices p.yard) c.args.block c.args.code) (sym c.self.view_is) c.requires.is_code).0

pub place-place-requires-clause-code : goal.place-place-requires-clause-code
place-place-requires-clause-code c =
    code_exists c.self.inside.tables.now.yard c.args.block c.args.code
    (subst (λ (p : PlainFrontier). IsCode (choices p.yard) c.args.block c.args.code) (sym c.self.view_is) c.requires.is_code)

pub is_clear-requires-clause-block : goal.is_clear-requires-clause-block
is_clear-requires-clause-block c =
    block_exists c.self.inside.tables.now.yard c.args.block
    (subst (λ (p : PlainFrontier). IsCode (choices p.yard) c.args.block c.args.code) (sym c.self.view_is) c.requires.is_code).0

pub returns-clause-yes : goal.returns-clause-yes
returns-clause-yes c = λ t.
    subst (λ (p : PlainFrontier). MayFit (choices p.yard) p.literals c.args.block c.args.code) c.self.view_is
    (clear_code_fits c.self.inside.tables.now.yard c.self.inside.list.items c.args.block c.args.code c.self.invariant.standing
    (subst (λ (p : PlainFrontier). IsCode (choices p.yard) c.args.block c.args.code) (sym c.self.view_is) c.requires.is_code)
    (subst (λ (p : PlainFrontier). LeavesFree p.literals c.args.block) (sym c.self.view_is) c.requires.free)
    (subst (λ (list : List Standing). IsClearAt c.self.inside.tables.now.yard list c.args.block c.args.code) c.as_slice.ensures.value
    (λ p at. subst (IsClear c.self.inside.tables.now.yard c.as_slice.result.now c.args.block) (same_Some c.place-place.result p (sym c.place-place.ensures.value ∙ at))
    (c.is_clear.ensures.yes t))))

pub returns-clause-no : goal.returns-clause-no
returns-clause-no c = λ t may.
    c.is_clear.ensures.no t
    (subst (λ (list : List Standing). IsClearAt c.self.inside.tables.now.yard list c.args.block c.args.code) (sym c.as_slice.ensures.value)
    (fits_clear_code c.self.inside.tables.now.yard c.self.inside.list.items c.args.block c.args.code c.self.invariant.standing c.self.invariant.once
    (subst (λ (p : PlainFrontier). LeavesFree p.literals c.args.block) (sym c.self.view_is) c.requires.free)
    (subst (λ (p : PlainFrontier). MayFit (choices p.yard) p.literals c.args.block c.args.code) (sym c.self.view_is) may))
    c.place-place.result c.place-place.ensures.value)
