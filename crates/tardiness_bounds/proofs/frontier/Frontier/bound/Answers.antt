use Rattle.std.proofs.Common.{◌≤◌, List, length, sym, ap, subst, ◌∙◌}
use Rattle.tardiness_bounds.specs.declared.left.Left.{Left}
use Rattle.tardiness_bounds.specs.Lefts.{AreLefts}
use Rattle.tardiness_bounds.proofs.StackLaws.{last_lefts, stack_long}
use Rattle.plan_rule.specs.Bounds.{IsFit}
use Rattle.plan_rule.specs.Yards.{choices}
use Rattle.tardiness_bounds.specs.declared.standing.Standing.{Standing}
use Rattle.tardiness_bounds.specs.Numbers.{number}
use Rattle.tardiness_bounds.specs.Stacks.{PlainFrontier}
use Rattle.tardiness_bounds.specs.Standings.{literals_of}
use Rattle.tardiness_bounds.proofs.frontier.Frontier.bound.Goals as goal

pub returns : goal.returns
returns c =
    subst (λ (p : PlainFrontier). IsFit (choices p.yard) p.literals (number c.bound_of.result)) c.self.view_is
    (subst (IsFit (choices c.self.inside.tables.now.yard) (literals_of c.self.inside.list.items)) (sym c.bound_of.ensures)
    (subst (λ (list : List Standing). IsFit (choices c.self.inside.tables.now.yard) (literals_of list) c.sum_of.result) c.as_slice-list.ensures.value c.sum_of.ensures))

pub last_from-requires : goal.last_from-requires
last_from-requires c =
    subst (λ (ls : List Left). length c.self.inside.tables.now.yard.blocks ≤ length ls) (sym c.as_slice-lefts.ensures.value)
    (stack_long c.self.inside.tables.now c.self.inside.list.items c.self.inside.lefts.items _ c.self.invariant)

pub sum_of-requires-clause-lefts : goal.sum_of-requires-clause-lefts
sum_of-requires-clause-lefts c =
    subst (λ (fs : List Standing). AreLefts c.self.inside.tables.now fs c.as_slice-lefts.result.now c.last_from.result) (sym c.as_slice-list.ensures.value)
    (subst (λ (ls : List Left). AreLefts c.self.inside.tables.now c.self.inside.list.items ls c.last_from.result) (sym c.as_slice-lefts.ensures.value)
    (last_lefts c.self.inside.tables.now c.self.inside.list.items c.self.inside.lefts.items c.last_from.result _ c.self.invariant
    (c.last_from.ensures ∙ ap length c.as_slice-lefts.ensures.value)))
