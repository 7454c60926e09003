use Rattle.std.proofs.Common.{◌≡◌, ◌<◌, List, length, min, refl, sym, ap, ◌∙◌, subst}
use Rattle.shape_exact.specs.Yards.{PlainYard}
use Rattle.plan_rule.specs.Boxes.{LeavesFree}
use Rattle.plan_rule.specs.Choices.{blocks, count}
use Rattle.plan_rule.specs.Yards.{choices}
use Rattle.plan_rule.proofs.CountLaws.{block_exists}
use Rattle.code_table.specs.Placements.{placements}
use Rattle.tardiness_bounds.specs.declared.standing.Standing.{Standing}
use Rattle.tardiness_bounds.specs.Firsts.{IsFirst}
use Rattle.tardiness_bounds.specs.Nexts.{IsCheap, MayFitUpTo}
use Rattle.tardiness_bounds.specs.Stacks.{PlainFrontier}
use Rattle.tardiness_bounds.proofs.CheapLaws.{first_fits, first_min}
use Rattle.tardiness_bounds.proofs.frontier.Frontier.next_free.Goals as goal

pub count-requires : goal.count-requires
count-requires c =
    subst (λ (y : PlainYard). c.args.block < length y.blocks) (sym c.codes.ensures)
    (block_exists c.self.inside.tables.now.yard c.args.block (subst (λ (p : PlainFrontier). c.args.block < blocks (choices p.yard)) (sym c.self.view_is) c.requires.block))

pub next_code-requires-clause-block : goal.next_code-requires-clause-block
next_code-requires-clause-block c =
    block_exists c.self.inside.tables.now.yard c.args.block (subst (λ (p : PlainFrontier). c.args.block < blocks (choices p.yard)) (sym c.self.view_is) c.requires.block)

pub returns : goal.returns
returns c =
    let n : c.count.result ≡ length (placements c.self.inside.tables.now.yard c.args.block) =
    c.count.ensures.value ∙ ap (λ y. length (placements y c.args.block)) c.codes.ensures in
    let from : c.walk_from-walk.result.from ≡ min c.args.code (length (placements c.self.inside.tables.now.yard c.args.block)) =
    c.walk_from-walk.ensures.from ∙ c.min.ensures ∙ ap (λ n. min c.args.code n) n in
    subst (λ (p : PlainFrontier). IsFirst (MayFitUpTo (choices p.yard) p.literals c.args.block c.args.most) c.args.code (count (choices p.yard) c.args.block) c.next_code.result) c.self.view_is
    (first_fits c.self.inside.tables.now.yard c.self.inside.list.items c.args.block c.args.most c.args.code (count (choices c.self.inside.tables.now.yard) c.args.block) c.next_code.result
    (subst (λ (p : PlainFrontier). c.args.block < blocks (choices p.yard)) (sym c.self.view_is) c.requires.block)
    c.self.invariant.standing c.self.invariant.once
    (subst (λ (p : PlainFrontier). LeavesFree p.literals c.args.block) (sym c.self.view_is) c.requires.free) refl
    (first_min (IsCheap c.self.inside.tables.now.yard c.self.inside.list.items c.args.block c.args.most) c.args.code (length (placements c.self.inside.tables.now.yard c.args.block)) c.walk_from-walk.result.from c.next_code.result from
    (subst (λ (list : List Standing). IsFirst (IsCheap c.self.inside.tables.now.yard list c.args.block c.args.most) c.walk_from-walk.result.from (length (placements c.self.inside.tables.now.yard c.args.block)) c.next_code.result)
    c.as_slice.ensures.value c.next_code.ensures.next)))
