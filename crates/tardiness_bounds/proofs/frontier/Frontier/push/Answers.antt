use Rattle.std.proofs.Common.{◌<◌, ◌≤◌, List, length, ap, sym, subst, ◌∙◌, arith}
use Rattle.tardiness_bounds.specs.declared.left.Left.{Left}
use Rattle.std.specs.Prelude.{All}
use Rattle.std.proofs.lemmas.List.Elements.{All-push}
use Rattle.plan_rule.specs.Boxes.{LeavesFree}
use Rattle.plan_rule.specs.Choices.{blocks}
use Rattle.plan_rule.specs.Yards.{choices}
use Rattle.plan_rule.proofs.CountLaws.{block_exists}
use Rattle.tardiness_bounds.specs.Lefts.{AreLefts}
use Rattle.tardiness_bounds.specs.Stacks.{PlainFrontier}
use Rattle.tardiness_bounds.specs.Standings.{IsStanding, literals_of}
use Rattle.tardiness_bounds.proofs.PigeonLaws.{room_left}
use Rattle.tardiness_bounds.proofs.StackLaws.{pushed_lefts, stack_long, stack_push, stack_room}
use Rattle.tardiness_bounds.proofs.frontier.Frontier.push.Goals as goal

pub push-requires : goal.push-requires
push-requires c =
    let few = c.self.invariant.limits.few_blocks in
    let room = room_left c.self.inside.tables.now.yard c.self.inside.list.items c.args.block c.self.invariant.standing c.self.invariant.once
    (subst (λ (p : PlainFrontier). LeavesFree p.literals c.args.block) (sym c.self.view_is) c.requires.free)
    (block_exists c.self.inside.tables.now.yard c.args.block (subst (λ (p : PlainFrontier). c.args.block < blocks (choices p.yard)) (sym c.self.view_is) c.requires.is_code.0)) in
    (omega arith, omega arith)

pub last_from-from-requires : goal.last_from-from-requires
last_from-from-requires c =
    subst (λ (ls : List Left). length c.self.inside.tables.now.yard.blocks ≤ length ls) (sym c.as_slice.ensures.value)
    (stack_long c.self.inside.tables.now c.self.inside.list.items c.self.inside.lefts.items _ c.self.invariant)

pub add_lefts-requires-clause-list : goal.add_lefts-requires-clause-list
add_lefts-requires-clause-list c =
    subst (All (IsStanding c.self.inside.tables.now.yard)) (sym c.push.ensures.items ∙ sym c.as_slice-2.ensures.value)
    (All-push (IsStanding c.self.inside.tables.now.yard) c.self.inside.list.items c.standing_at-new.result c.self.invariant.standing c.standing_at-new.ensures.standing)

pub add_lefts-requires-clause-old : goal.add_lefts-requires-clause-old
add_lefts-requires-clause-old c =
    pushed_lefts c.self.inside.tables.now c.self.inside.list.items c.as_slice-2.result.now c.standing_at-new.result c.self.inside.lefts.items c.last_from-from.result
    _ c.self.invariant (c.as_slice-2.ensures.value ∙ c.push.ensures.items)
    (subst (LeavesFree (literals_of c.self.inside.list.items)) (sym c.standing_at-new.ensures.block)
    (subst (λ (p : PlainFrontier). LeavesFree p.literals c.args.block) (sym c.self.view_is) c.requires.free))
    (c.last_from-from.ensures ∙ ap length c.as_slice.ensures.value)

pub add_lefts-requires-clause-room : goal.add_lefts-requires-clause-room
add_lefts-requires-clause-room c =
    stack_room c.self.inside.tables.now c.self.inside.list.items c.self.inside.lefts.items _ c.self.invariant
    (room_left c.self.inside.tables.now.yard c.self.inside.list.items c.args.block c.self.invariant.standing c.self.invariant.once
    (subst (λ (p : PlainFrontier). LeavesFree p.literals c.args.block) (sym c.self.view_is) c.requires.free)
    (block_exists c.self.inside.tables.now.yard c.args.block (subst (λ (p : PlainFrontier). c.args.block < blocks (choices p.yard)) (sym c.self.view_is) c.requires.is_code.0)))

pub invariant_of-self : goal.invariant_of-self
invariant_of-self c =
    stack_push c.self.inside.tables.now c.self.inside.list.items c.push.new.self.items c.standing_at-new.result c.self.inside.lefts.items c.add_lefts.new.lefts.items
    _ _ c.self.invariant c.push.ensures.items c.add_lefts.ensures.kept c.add_lefts.ensures.len
    (subst (λ fs. AreLefts c.self.inside.tables.now fs c.add_lefts.new.lefts.items (length c.self.inside.lefts.items)) c.as_slice-2.ensures.value c.add_lefts.ensures.lefts)
    c.standing_at-new.ensures.standing
    (subst (LeavesFree (literals_of c.self.inside.list.items)) (sym c.standing_at-new.ensures.block)
    (subst (λ (p : PlainFrontier). LeavesFree p.literals c.args.block) (sym c.self.view_is) c.requires.free))
    (room_left c.self.inside.tables.now.yard c.self.inside.list.items c.args.block c.self.invariant.standing c.self.invariant.once
    (subst (λ (p : PlainFrontier). LeavesFree p.literals c.args.block) (sym c.self.view_is) c.requires.free)
    (block_exists c.self.inside.tables.now.yard c.args.block (subst (λ (p : PlainFrontier). c.args.block < blocks (choices p.yard)) (sym c.self.view_is) c.requires.is_code.0)))
    (let r = c.self.invariant.room in let k = c.add_lefts.ensures.room in omega arith)
