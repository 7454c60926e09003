use Rattle.std.proofs.Common.{◌≡◌, ◌+◌, ◌*◌, length, List, sym, ap, subst, refl, ◌∙◌}
use Rattle.std.proofs.lemmas.Option.{same_Some}
use Rattle.shape_exact.specs.Yards.{PlainYard}
use Rattle.shape_exact.specs.declared.block.Block.{Block}
use Rattle.code_table.proofs.ReadLaws.{read_at}
use Rattle.tardiness_bounds.specs.Obstacles.{AreObstacles}
use Rattle.tardiness_bounds.specs.Tables.{PlainTables}
use Rattle.tardiness_bounds.proofs.TableLaws.{obstacle_number}
use Rattle.tardiness_bounds.proofs.tables.YardTables.obstacle.Goals as goal

pub returns : goal.returns
returns c =
    let same : c.self.inside.codes.now ≡ c.args.self.now.yard = ap (λ (t : PlainTables). t.yard) c.self.view_is in
    let are : AreObstacles c.args.self.now.yard c.self.inside.obstacles.list.items =
    subst (λ y. AreObstacles y c.self.inside.obstacles.list.items) same c.self.invariant.obstacles_are in
    let turned : length c.blocks-2.result.now * 4 ≡ length c.args.self.now.yard.blocks * 4 =
    ap (λ (bs : List Block). length bs * 4) (c.blocks-2.ensures.value ∙ ap (λ (y : PlainYard). y.blocks) (c.yard.ensures.value ∙ c.codes.ensures)) in
    let (within, at) = obstacle_number c.args.self.now.yard c.self.inside.obstacles.list.items c.args.standing c.args.moving
    (length c.blocks-2.result.now * 4) (c.args.standing * (length c.blocks-2.result.now * 4) + c.args.moving) are turned
    c.requires.standing c.requires.moving refl in
    let here = read_at c.self.inside.obstacles.list.items _ _ c.index-list-standing.result c.as_slice-list.ensures.value within c.index-list-standing.is in
    same_Some _ _ (sym here ∙ at)
