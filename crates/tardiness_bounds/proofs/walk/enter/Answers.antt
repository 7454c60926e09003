use Rattle.std.proofs.Common.{◌≡◌, refl, sym, ap, ◌∙◌, arith}
use Rattle.std.specs.Prelude.{slice_get}
use Rattle.std.proofs.lemmas.Option.{same_Some}
use Rattle.shape_exact.specs.Yards.{PlainYard}
use Rattle.shape_exact.specs.declared.block.Block.{Block}
use Rattle.code_table.specs.Placements.{cost_on}
use Rattle.tardiness_bounds.proofs.WalkLaws.{enter_here, spot_there}
use Rattle.tardiness_bounds.proofs.walk.enter.Goals as goal

pub nonzero_div-walk : goal.nonzero_div-walk
nonzero_div-walk c =
    (spot_there c.args.tables.now.yard c.args.list.now c.args.block c.args.walk.now.from c.from-columns.result c.stand_at.new.stand c.stretch-stretch.result
    c.stand_at.ensures.stand c.stand_at.ensures.stretch c.stretch-stretch.ensures.from c.stretch-stretch.ensures.to c.from-columns.ensures).0

pub nonzero_rem-walk : goal.nonzero_rem-walk
nonzero_rem-walk c =
    (spot_there c.args.tables.now.yard c.args.list.now c.args.block c.args.walk.now.from c.from-columns.result c.stand_at.new.stand c.stretch-stretch.result
    c.stand_at.ensures.stand c.stand_at.ensures.stretch c.stretch-stretch.ensures.from c.stretch-stretch.ensures.to c.from-columns.ensures).0

pub overflow_cast-walk : goal.overflow_cast-walk
overflow_cast-walk c =
    let s = spot_there c.args.tables.now.yard c.args.list.now c.args.block c.args.walk.now.from c.from-columns.result c.stand_at.new.stand c.stretch-stretch.result
    c.stand_at.ensures.stand c.stand_at.ensures.stretch c.stretch-stretch.ensures.from c.stretch-stretch.ensures.to c.from-columns.ensures in
    let few = c.stand_at.ensures.stand.ground.rows in
    let small = s.1 in
    omega arith

pub overflow_cast-walk-2 : goal.overflow_cast-walk-2
overflow_cast-walk-2 c =
    let s = spot_there c.args.tables.now.yard c.args.list.now c.args.block c.args.walk.now.from c.from-columns.result c.stand_at.new.stand c.stretch-stretch.result
    c.stand_at.ensures.stand c.stand_at.ensures.stretch c.stretch-stretch.ensures.from c.stretch-stretch.ensures.to c.from-columns.ensures in
    let few = c.stand_at.ensures.stand.ground.columns in
    let small = s.2 in
    omega arith

pub returns-clause-here : goal.returns-clause-here
returns-clause-here c = λ t.
    enter_here c.args.tables.now.yard c.args.list.now c.args.block c.args.most c.args.walk.now.from c.from-columns.result _ c.stretch-stretch.result
    c.stand_at.ensures.stand c.stand_at.ensures.stretch c.stretch-stretch.ensures.from c.stretch-stretch.ensures.to c.from-columns.ensures refl refl refl
    (λ block is.
    let same : c.block_at.result.now ≡ block = same_Some c.block_at.result.now block
    (sym c.block_at.ensures.value ∙ ap (λ (y : PlainYard). slice_get y.blocks c.args.block) c.codes-codes.ensures ∙ is) in
    let e : cost_on c.block_at.result.now c.stretch-stretch.result.place.end ≡ cost_on block c.stretch-stretch.result.place.end =
    ap (λ (block : Block). cost_on block c.stretch-stretch.result.place.end) same in
    let low = c.if-cost_on-most.false in
    let v = c.cost_on.ensures.value in
    omega arith)
