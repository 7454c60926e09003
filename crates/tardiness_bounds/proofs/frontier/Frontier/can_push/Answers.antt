use Rattle.std.proofs.Common.{◌≡◌, ◌<◌, List, length, sym, ap, subst, arith}
use Rattle.plan_rule.specs.Boxes.{LeavesFree}
use Rattle.plan_rule.specs.Choices.{blocks, count}
use Rattle.plan_rule.specs.Yards.{choices}
use Rattle.plan_rule.proofs.CountLaws.{block_exists, count-length, is_code}
use Rattle.code_table.specs.Placements.{placements}
use Rattle.tardiness_bounds.specs.declared.standing.Standing.{Standing}
use Rattle.tardiness_bounds.specs.Stacks.{CanPush, PlainFrontier}
use Rattle.tardiness_bounds.specs.Standings.{literals_of}
use Rattle.tardiness_bounds.proofs.frontier.Frontier.can_push.Goals as goal

pub returns-then-block-block_count-clause-no : goal.returns-then-block-block_count-clause-no
returns-then-block-block_count-clause-no c = λ t can.
    let n : blocks (choices c.codes-codes.result.now) ≡ blocks (choices c.self.inside.tables.now.yard) = ap (λ y. blocks (choices y)) c.codes-codes.ensures in
    let m = ap (λ (p : PlainFrontier). blocks (choices p.yard)) c.self.view_is in
    let v = c.block_count.ensures.value in
    let l = can.is_code.0 in
    let k = c.if-block-block_count.true in
    omega arith

pub count-requires : goal.count-requires
count-requires c = block_exists c.codes-codes.result.now c.args.block (let v = c.block_count.ensures.value in let l = c.if-block-block_count.false in omega arith)

pub returns-then-code-count-clause-no : goal.returns-then-code-count-clause-no
returns-then-code-count-clause-no c = λ t can.
    let n : blocks (choices c.codes-codes.result.now) ≡ blocks (choices c.self.inside.tables.now.yard) = ap (λ y. blocks (choices y)) c.codes-codes.ensures in
    let m = ap (λ (p : PlainFrontier). blocks (choices p.yard)) c.self.view_is in
    let v = c.block_count.ensures.value in
    let within : c.args.block < blocks (choices c.self.inside.tables.now.yard) = (let l = c.if-block-block_count.false in omega arith) in
    let codes = ap (λ y. length (placements y c.args.block)) c.codes-codes.ensures in
    let long = count-length c.self.inside.tables.now.yard c.args.block (block_exists c.self.inside.tables.now.yard c.args.block within) in
    let same = ap (λ (p : PlainFrontier). count (choices p.yard) c.args.block) c.self.view_is in
    let w = c.count.ensures.value in
    let l = can.is_code.1 in
    let k = c.if-code-count.true in
    omega arith

pub returns-clause-yes : goal.returns-clause-yes
returns-clause-yes c = λ t.
    let n : blocks (choices c.codes-codes.result.now) ≡ blocks (choices c.self.inside.tables.now.yard) = ap (λ y. blocks (choices y)) c.codes-codes.ensures in
    let m = ap (λ (p : PlainFrontier). blocks (choices p.yard)) c.self.view_is in
    let v = c.block_count.ensures.value in
    let within : c.args.block < blocks (choices c.self.inside.tables.now.yard) = (let l = c.if-block-block_count.false in omega arith) in
    let codes = ap (λ y. length (placements y c.args.block)) c.codes-codes.ensures in
    subst (λ (p : PlainFrontier). CanPush p c.args.block c.args.code) c.self.view_is
    (record {
      is_code = is_code c.self.inside.tables.now.yard c.args.block c.args.code within (let w = c.count.ensures.value in let l = c.if-code-count.false in omega arith);
      free = subst (λ (list : List Standing). LeavesFree (literals_of list) c.args.block) c.as_slice.ensures.value (c.leaves_free.ensures.yes t);
    })

pub returns-clause-no : goal.returns-clause-no
returns-clause-no c = λ t can.
    c.leaves_free.ensures.no t
    (subst (λ (list : List Standing). LeavesFree (literals_of list) c.args.block) (sym c.as_slice.ensures.value)
    (subst (λ (p : PlainFrontier). LeavesFree p.literals c.args.block) (sym c.self.view_is) can.free))
