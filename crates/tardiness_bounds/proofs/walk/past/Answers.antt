use Rattle.std.proofs.Common.{◌≡◌, length, Some, sym, subst, ap, ◌∙◌, arith}
use Rattle.std.specs.Prelude.{slice_get}
use Rattle.shape_exact.specs.Yards.{IsYard, PlainYard}
use Rattle.code_table.specs.Orders.{AreAscending}
use Rattle.code_table.specs.Placements.{placements}
use Rattle.tardiness_bounds.specs.Walks.{AreDear}
use Rattle.tardiness_bounds.proofs.WalkLaws.{dear_start}
use Rattle.tardiness_bounds.proofs.walk.past.Goals as goal

pub returns-then-floor-most-clause-dear : goal.returns-then-floor-most-clause-dear
returns-then-floor-most-clause-dear c =
    subst (AreDear c.args.tables.now.yard c.args.block c.args.most c.args.stretch.lo)
    (sym (c.count.ensures.value ∙ ap (λ y. length (placements y c.args.block)) c.codes-codes.ensures))
    (dear_start c.args.tables.now.yard c.args.block c.args.most c.args.stretch c.block_at.result.now (subst IsYard c.codes-codes.ensures c.block_at.ensures.yard)
    (subst (λ (y : PlainYard). slice_get y.blocks c.args.block ≡ Some c.block_at.result.now) c.codes-codes.ensures c.block_at.ensures.value)
    (subst (λ y. AreAscending (placements y c.args.block)) c.codes-codes.ensures c.codes_ascend.ensures.order) c.requires.stretch c.requires.some
    (let t = c.if-floor-most.true in let e = c.floor.ensures in omega arith))
