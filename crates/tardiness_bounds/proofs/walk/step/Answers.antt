use Rattle.std.proofs.Common.{◌≡◌, ℕ, ◌+◌, Some}
use Rattle.tardiness_bounds.specs.Firsts.{IsFirst}
use Rattle.tardiness_bounds.specs.Walks.{IsAt, IsFound, IsFreeBeside}
use Rattle.tardiness_bounds.proofs.WalkLaws.{both_none, both_some, step_none, step_some}
use Rattle.tardiness_bounds.proofs.walk.step.Goals as goal

pub returns-clause-none : goal.returns-clause-none
returns-clause-none c =
    let here = c.reaches.ensures.here c.if-not-reaches.false in
    both_none c.find.result _ _ _
    (λ end none. step_none c.args.tables.now.yard c.args.list.now c.args.block c.args.most c.args.walk.now.from c.reaches.new.walk c.find.new.walk c.requires.block c.requires.list here
    c.find.ensures.stand end none)
    c.find.ensures.past c.find.ensures.none

pub returns-clause-some : goal.returns-clause-some
returns-clause-some c =
    let here = c.reaches.ensures.here c.if-not-reaches.false in
    both_some c.find.result
    (λ (x : ℕ). (c.find.new.walk.from ≡ x + 1) × IsAt c.find.new.walk)
    (λ (x : ℕ). IsFirst (IsFreeBeside c.args.tables.now.yard c.reaches.new.walk.stand.near.items c.args.block) c.reaches.new.walk.from c.reaches.new.walk.stand.stretch.hi (Some x))
    (λ (x : ℕ). IsFound c.args.tables.now.yard c.args.list.now c.args.block c.args.most c.args.walk.now.from x c.find.new.walk)
    (λ x at first. step_some c.args.tables.now.yard c.args.list.now c.args.block c.args.most c.args.walk.now.from x c.reaches.new.walk c.find.new.walk c.requires.block c.requires.list here
    c.find.ensures.stand at first)
    c.find.ensures.at c.find.ensures.some
