use Rattle.std.proofs.Common.{◌≤◌, List, length, sym, ap, subst, ◌∙◌}
use Rattle.tardiness_bounds.specs.declared.left.Left.{Left}
use Rattle.tardiness_bounds.specs.Lefts.{AreLefts}
use Rattle.tardiness_bounds.proofs.StackLaws.{last_lefts, stack_long}
use Rattle.plan_rule.specs.Bounds.{IsLeastOf, MayFit}
use Rattle.plan_rule.specs.Yards.{choices}
use Rattle.tardiness_bounds.specs.declared.standing.Standing.{Standing}
use Rattle.tardiness_bounds.specs.Stacks.{PlainFrontier}
use Rattle.tardiness_bounds.specs.Standings.{literals_of}
use Rattle.tardiness_bounds.proofs.frontier.Frontier.least.Goals as goal

pub returns : goal.returns
returns c =
    subst (λ (p : PlainFrontier). IsLeastOf (MayFit (choices p.yard) p.literals c.args.block) ((choices p.yard).cost c.args.block) c.least_in.result) c.self.view_is
    (subst (λ (list : List Standing). IsLeastOf (MayFit (choices c.self.inside.tables.now.yard) (literals_of list) c.args.block) ((choices c.self.inside.tables.now.yard).cost c.args.block) c.least_in.result)
    c.as_slice-list.ensures.value c.least_in.ensures.least)

pub last_from-requires : goal.last_from-requires
last_from-requires c =
    subst (λ (ls : List Left). length c.self.inside.tables.now.yard.blocks ≤ length ls) (sym c.as_slice-lefts.ensures.value)
    (stack_long c.self.inside.tables.now c.self.inside.list.items c.self.inside.lefts.items _ c.self.invariant)

pub least_in-requires-clause-lefts : goal.least_in-requires-clause-lefts
least_in-requires-clause-lefts c =
    subst (λ (fs : List Standing). AreLefts c.self.inside.tables.now fs c.as_slice-lefts.result.now c.last_from.result) (sym c.as_slice-list.ensures.value)
    (subst (λ (ls : List Left). AreLefts c.self.inside.tables.now c.self.inside.list.items ls c.last_from.result) (sym c.as_slice-lefts.ensures.value)
    (last_lefts c.self.inside.tables.now c.self.inside.list.items c.self.inside.lefts.items c.last_from.result _ c.self.invariant
    (c.last_from.ensures ∙ ap length c.as_slice-lefts.ensures.value)))
