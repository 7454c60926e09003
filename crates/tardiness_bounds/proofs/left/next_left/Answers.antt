use Rattle.std.proofs.Common.{◌≡◌, ◌<◌, Some, length, sym, subst, ◌∙◌}
use Rattle.std.specs.Prelude.{slice_get}
use Rattle.shape_exact.specs.Yards.{PlainYard}
use Rattle.std.proofs.lemmas.Bool.{iff_false}
use Rattle.code_table.specs.Placements.{placements}
use Rattle.tardiness_bounds.specs.declared.left.Left.TheVariants.{Stands, Free, Never}
use Rattle.tardiness_bounds.specs.Lefts.{IsLeftBefore}
use Rattle.tardiness_bounds.proofs.NextLaws.{last_standing, next_full, next_here, next_kept, own_cost_at}
use Rattle.tardiness_bounds.proofs.left.next_left.Goals as goal

pub returns-then-block-new : goal.returns-then-block-new
returns-then-block-new c =
    next_here c.args.tables.now c.args.list.now c.args.new c.args.block c.cost_on.result c.args.old c.requires.old
    (last_standing c.args.tables.now c.args.list.now c.requires.old.before c.args.new c.requires.list c.requires.old.ends)
    c.if-block-new.true
    (c.cost_on.ensures.value
    ∙ sym (own_cost_at c.args.tables.now.yard c.args.block c.args.new.code c.block_at.result.now c.args.new.place
    (subst (λ (y : PlainYard). slice_get y.blocks c.args.block ≡ Some c.block_at.result.now) c.codes-codes.ensures c.block_at.ensures.value)
    (subst (λ b. slice_get (placements c.args.tables.now.yard b) c.args.new.code ≡ Some c.args.new.place) (sym c.if-block-new.true)
    (last_standing c.args.tables.now c.args.list.now c.requires.old.before c.args.new c.requires.list c.requires.old.ends).code)))

pub block_at-requires : goal.block_at-requires
block_at-requires c = subst (λ (y : PlainYard). c.args.block < length y.blocks) (sym c.codes-codes.ensures) c.requires.block

pub clashes-requires-clause-standing : goal.clashes-requires-clause-standing
clashes-requires-clause-standing c = last_standing c.args.tables.now c.args.list.now c.requires.old.before c.args.new c.requires.list c.requires.old.ends

pub left_from-requires-clause-full : goal.left_from-requires-clause-full
left_from-requires-clause-full c =
    next_full c.args.tables.now c.args.list.now c.args.new c.args.block c.in-Free.w
    (subst (IsLeftBefore c.args.tables.now c.args.list.now c.args.new c.args.block) c.in-Free.is c.requires.old)

pub returns-else-clashes : goal.returns-else-clashes
returns-else-clashes c =
    next_kept c.args.tables.now c.args.list.now c.args.new c.args.block (Free c.in-Free.w)
    (subst (IsLeftBefore c.args.tables.now c.args.list.now c.args.new c.args.block) c.in-Free.is c.requires.old)
    c.if-block-new.false (iff_false c.clashes.ensures c.if-clashes.false)

pub returns-in-Stands : goal.returns-in-Stands
returns-in-Stands c =
    next_kept c.args.tables.now c.args.list.now c.args.new c.args.block (Stands c.in-Stands.cost)
    (subst (IsLeftBefore c.args.tables.now c.args.list.now c.args.new c.args.block) c.in-Stands.is c.requires.old)
    c.if-block-new.false tt

pub returns-in-Never : goal.returns-in-Never
returns-in-Never c =
    next_kept c.args.tables.now c.args.list.now c.args.new c.args.block Never
    (subst (IsLeftBefore c.args.tables.now c.args.list.now c.args.new c.args.block) c.in-Never.is c.requires.old)
    c.if-block-new.false tt
