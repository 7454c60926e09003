use Rattle.std.proofs.Common.{◌≡◌, List, Some, sym, subst, ◌∙◌}
use Rattle.std.specs.Prelude.{slice_get}
use Rattle.shape_exact.specs.Yards.{PlainYard}
use Rattle.plan_rule.specs.Boxes.{LeavesFree}
use Rattle.plan_rule.specs.Choices.{IsCode}
use Rattle.plan_rule.specs.Yards.{choices}
use Rattle.plan_rule.proofs.CountLaws.{block_exists, code_exists}
use Rattle.tardiness_bounds.specs.declared.standing.Standing.{Standing}
use Rattle.tardiness_bounds.specs.Besides.{IsHinderedAt, TellsBeside}
use Rattle.tardiness_bounds.specs.Stacks.{PlainFrontier}
use Rattle.tardiness_bounds.specs.Standings.{literals_of}
use Rattle.tardiness_bounds.proofs.BesideLaws.{hindered_code}
use Rattle.tardiness_bounds.proofs.FitLaws.{cost_is_at}
use Rattle.tardiness_bounds.proofs.frontier.Frontier.beside.Goals as goal

pub place-place-requires-clause-block : goal.place-place-requires-clause-block
place-place-requires-clause-block c =
    block_exists c.self.inside.tables.now.yard c.args.block
    (subst (λ (p : PlainFrontier). IsCode (choices p.yard) c.args.block c.args.code) (sym c.self.view_is) c.requires.is_code).0

pub place-place-requires-clause-code : goal.place-place-requires-clause-code
place-place-requires-clause-code c =
    code_exists c.self.inside.tables.now.yard c.args.block c.args.code
    (subst (λ (p : PlainFrontier). IsCode (choices p.yard) c.args.block c.args.code) (sym c.self.view_is) c.requires.is_code)

pub what_hinders-hindrance-requires-clause-block : goal.what_hinders-hindrance-requires-clause-block
what_hinders-hindrance-requires-clause-block c =
    block_exists c.self.inside.tables.now.yard c.args.block
    (subst (λ (p : PlainFrontier). IsCode (choices p.yard) c.args.block c.args.code) (sym c.self.view_is) c.requires.is_code).0

pub returns : goal.returns
returns c =
    let is : IsCode (choices c.self.inside.tables.now.yard) c.args.block c.args.code =
    subst (λ (p : PlainFrontier). IsCode (choices p.yard) c.args.block c.args.code) (sym c.self.view_is) c.requires.is_code in
    let free : LeavesFree (literals_of c.self.inside.list.items) c.args.block =
    subst (λ (p : PlainFrontier). LeavesFree p.literals c.args.block) (sym c.self.view_is) c.requires.free in
    subst (λ (p : PlainFrontier). TellsBeside (choices p.yard) p.literals c.args.block c.args.code (record { cost = c.cost_on-cost.result; hindrance = c.what_hinders-hindrance.result })) c.self.view_is
    (record {
      cost_is = c.cost_on-cost.ensures.value
          ∙ sym (cost_is_at c.self.inside.tables.now.yard c.args.block c.args.code c.block_at.result.now c.place-place.result
          (subst (λ (y : PlainYard). slice_get y.blocks c.args.block ≡ Some c.block_at.result.now) c.codes.ensures c.block_at.ensures.value) c.place-place.ensures.value);
      hindered = hindered_code c.self.inside.tables.now.yard c.self.inside.list.items c.args.block c.args.code c.place-place.result c.what_hinders-hindrance.result
          c.self.invariant.standing c.self.invariant.once is free c.place-place.ensures.value
          (subst (λ (list : List Standing). IsHinderedAt c.self.inside.tables.now.yard list c.args.block c.place-place.result c.what_hinders-hindrance.result) c.as_slice.ensures.value
          c.what_hinders-hindrance.ensures);
    })
