use Rattle.std.proofs.Common.{◌≡◌, ◌*◌, length, List, ap, subst, ◌∙◌}
use Rattle.shape_exact.specs.Yards.{PlainYard}
use Rattle.shape_exact.specs.declared.block.Block.{Block}
use Rattle.tardiness_bounds.specs.Lattices.{AreLattices}
use Rattle.tardiness_bounds.specs.Tables.{PlainTables}
use Rattle.tardiness_bounds.proofs.LatticeLaws.{lattice_read, lattice_within}
use Rattle.tardiness_bounds.proofs.tables.YardTables.lattice.Goals as goal

pub bounds-list-plate : goal.bounds-list-plate
bounds-list-plate c =
    let same : c.self.inside.codes.now ≡ c.args.self.now.yard = ap (λ (t : PlainTables). t.yard) c.self.view_is in
    let are : AreLattices c.args.self.now.yard c.self.inside.lattices.list.items =
    subst (λ y. AreLattices y c.self.inside.lattices.list.items) same c.self.invariant.lattices_are in
    let turned : length c.blocks-2.result.now * 4 ≡ length c.args.self.now.yard.blocks * 4 =
    ap (λ (bs : List Block). length bs * 4) (c.blocks-2.ensures.value ∙ ap (λ (y : PlainYard). y.blocks) (c.yard.ensures.value ∙ c.codes.ensures)) in
    lattice_within c.args.self.now.yard c.self.inside.lattices.list.items c.as_slice-list.result.now c.args.plate c.args.moving
    (length c.blocks-2.result.now * 4) are turned c.as_slice-list.ensures.value c.requires.plate c.requires.moving

pub returns : goal.returns
returns c =
    let same : c.self.inside.codes.now ≡ c.args.self.now.yard = ap (λ (t : PlainTables). t.yard) c.self.view_is in
    let are : AreLattices c.args.self.now.yard c.self.inside.lattices.list.items =
    subst (λ y. AreLattices y c.self.inside.lattices.list.items) same c.self.invariant.lattices_are in
    let turned : length c.blocks-2.result.now * 4 ≡ length c.args.self.now.yard.blocks * 4 =
    ap (λ (bs : List Block). length bs * 4) (c.blocks-2.ensures.value ∙ ap (λ (y : PlainYard). y.blocks) (c.yard.ensures.value ∙ c.codes.ensures)) in
    lattice_read c.args.self.now.yard c.self.inside.lattices.list.items c.as_slice-list.result.now c.args.plate c.args.moving
    (length c.blocks-2.result.now * 4) _ are turned c.as_slice-list.ensures.value c.requires.plate c.requires.moving
