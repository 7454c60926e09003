use Rattle.std.proofs.Common.{◌≡◌, ℤ, ◌+◌, ◌-ℤ◌, ◌*◌, ◌<◌, pos, length, List, Option, FitsSigned, w32, sym, ap, subst, refl, ◌∙◌}
use Rattle.std.proofs.lemmas.Int.{to_z-of_z}
use Rattle.shape_exact.specs.Yards.{PlainYard}
use Rattle.shape_exact.specs.declared.block.Block.{Block}
use Rattle.minkowski_obstacles.specs.Pairs.{Pair}
use Rattle.tardiness_bounds.specs.Footprints.{pair_at}
use Rattle.tardiness_bounds.specs.Obstacles.{AreObstacles}
use Rattle.tardiness_bounds.specs.Rows.{IsRowOf, span_of}
use Rattle.tardiness_bounds.specs.Tables.{PlainTables}
use Rattle.tardiness_bounds.proofs.KeptLaws.{row_is, row_read, row_within, way_is}
use Rattle.tardiness_bounds.proofs.TableLaws.{obstacle_number}
use Rattle.tardiness_bounds.proofs.tables.YardTables.row.Goals as goal

pub returns-in_default : goal.returns-in_default
returns-in_default c =
    let fits : FitsSigned w32 c.way.result = record { sfits = c.way.type_inv } in
    let none = simp to_z-of_z at c.row.ensures.none in
    let some = simp to_z-of_z at c.row.ensures.some in
    subst (λ (pair : Pair). IsRowOf pair (pos c.args.y -ℤ pos c.args.at) c.row.result) c.obstacle.ensures
    (subst (λ v. IsRowOf c.obstacle.result.now v c.row.result) c.way.ensures
    (row_is c.obstacle.result.now c.way.result c.row.result none some c.row.ensures.few))

pub bounds-rows-number : goal.bounds-rows-number
bounds-rows-number c =
    let same : c.self.inside.codes.now ≡ c.args.self.now.yard = ap (λ (t : PlainTables). t.yard) c.self.view_is in
    let are : AreObstacles c.args.self.now.yard c.self.inside.obstacles.list.items =
    subst (λ y. AreObstacles y c.self.inside.obstacles.list.items) same c.self.invariant.obstacles_are in
    let turned : length c.blocks-2.result.now * 4 ≡ length c.args.self.now.yard.blocks * 4 =
    ap (λ (bs : List Block). length bs * 4) (c.blocks-2.ensures.value ∙ ap (λ (y : PlainYard). y.blocks) (c.yard.ensures.value ∙ c.codes.ensures)) in
    let number = c.args.standing * (length c.blocks-2.result.now * 4) + c.args.moving in
    let (within, at) = obstacle_number c.args.self.now.yard c.self.inside.obstacles.list.items c.args.standing c.args.moving
    (length c.blocks-2.result.now * 4) number are turned c.requires.standing c.requires.moving refl in
    let (low, e) = c.in-Some.ensures in
    subst (λ (rows : List (Option (ℤ × ℤ))). number * span_of c.self.inside.rows.reach + c.in-Some.place < length rows) (sym c.as_slice-rows.ensures.value)
    (row_within c.self.inside.obstacles.list.items c.self.inside.rows.reach c.self.inside.rows.list.items number c.in-Some.place
    (number * span_of c.self.inside.rows.reach + c.in-Some.place) c.self.invariant.rows_are within low refl)

pub returns : goal.returns
returns c =
    let same : c.self.inside.codes.now ≡ c.args.self.now.yard = ap (λ (t : PlainTables). t.yard) c.self.view_is in
    let are : AreObstacles c.args.self.now.yard c.self.inside.obstacles.list.items =
    subst (λ y. AreObstacles y c.self.inside.obstacles.list.items) same c.self.invariant.obstacles_are in
    let turned : length c.blocks-2.result.now * 4 ≡ length c.args.self.now.yard.blocks * 4 =
    ap (λ (bs : List Block). length bs * 4) (c.blocks-2.ensures.value ∙ ap (λ (y : PlainYard). y.blocks) (c.yard.ensures.value ∙ c.codes.ensures)) in
    let number = c.args.standing * (length c.blocks-2.result.now * 4) + c.args.moving in
    let (within, at) = obstacle_number c.args.self.now.yard c.self.inside.obstacles.list.items c.args.standing c.args.moving
    (length c.blocks-2.result.now * 4) number are turned c.requires.standing c.requires.moving refl in
    let (low, e) = c.in-Some.ensures in
    row_read c.self.inside.obstacles.list.items c.self.inside.rows.reach c.self.inside.rows.list.items c.as_slice-rows.result.now
    (pair_at c.args.self.now.yard c.args.standing c.args.moving) (pos c.args.y -ℤ pos c.args.at) _ number c.in-Some.place
    (number * span_of c.self.inside.rows.reach + c.in-Some.place) c.as_slice-rows.ensures.value c.self.invariant.rows_are at within low
    (way_is c.in-Some.place c.args.at c.args.y c.self.inside.rows.reach e) refl
