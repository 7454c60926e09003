use Rattle.std.proofs.Common.{◌<◌, ◌≤◌, List, length, sym, ap, subst, ◌∙◌, arith}
use Rattle.tardiness_bounds.specs.declared.left.Left.{Left}
use Rattle.tardiness_bounds.specs.Stacks.{PlainFrontier}
use Rattle.tardiness_bounds.proofs.StackLaws.{literals_length, stack_long, stack_pop}
use Rattle.tardiness_bounds.proofs.frontier.Frontier.pop.Goals as goal

pub last_from-from-requires : goal.last_from-from-requires
last_from-from-requires c =
    subst (λ (ls : List Left). length c.self.inside.tables.now.yard.blocks ≤ length ls) (sym c.as_slice.ensures.value)
    (stack_long c.self.inside.tables.now c.self.inside.list.items c.self.inside.lefts.items _ c.self.invariant)

pub invariant_of-self : goal.invariant_of-self
invariant_of-self c =
    let long = literals_length c.self.inside.list.items in
    let same = ap (λ (p : PlainFrontier). length p.literals) c.self.view_is in
    let some : 0 < length c.self.inside.list.items = (let r = c.requires in omega arith) in
    stack_pop c.self.inside.tables.now c.self.inside.list.items c.pop.new.self.items c.self.inside.lefts.items c.truncate.new.self.items c.last_from-from.result _ _
    c.self.invariant some c.pop.ensures.rest (c.last_from-from.ensures ∙ ap length c.as_slice.ensures.value) c.truncate.ensures.items
    (let r = c.self.invariant.room in let k = c.truncate.ensures.capacity in omega arith)
