use Rattle.std.proofs.Common.{◌+◌, ◌*◌, sym, subst, arith}
use Rattle.common_lists.proofs.ListLaws.{element_at}
use Rattle.shape_exact.specs.Yards.{IsYard}
use Rattle.code_table.specs.Stretches.{HasEach, IsStretch}
use Rattle.code_table.proofs.StandLaws.{placements-of}
use Rattle.code_table.proofs.StretchLaws.{stretch_limits}
use Rattle.lattice_free.specs.Runs.{IsPitch}
use Rattle.tardiness_bounds.specs.declared.stand.Stand.{Stand}
use Rattle.tardiness_bounds.specs.Footprints.{footprint_at}
use Rattle.tardiness_bounds.specs.Stands.{IsGrid}
use Rattle.tardiness_bounds.proofs.LatticeLaws.{shape_in}
use Rattle.tardiness_bounds.proofs.StandLaws.{grid_of_stretch}
use Rattle.tardiness_bounds.proofs.stand.stand_at.Goals as goal

pub lattice-stand-requires-clause-plate : goal.lattice-stand-requires-clause-plate
lattice-stand-requires-clause-plate c =
    (stretch_limits c.args.tables.now.yard c.args.block c.args.stretch.lo c.args.stretch (subst IsYard c.codes.ensures c.limits.ensures.limits) c.requires.block c.requires.stretch (omega arith) c.requires.some).plate

pub overflow_add-block : goal.overflow_add-block
overflow_add-block c =
    let y : IsYard c.args.tables.now.yard = subst IsYard c.codes.ensures c.limits.ensures.limits in
    let turn = (stretch_limits c.args.tables.now.yard c.args.block c.args.stretch.lo c.args.stretch y c.requires.block c.requires.stretch (omega arith) c.requires.some).turn in
    let few = y.few_blocks in
    let l = c.requires.block in
    omega arith

pub lattice-stand-requires-clause-moving : goal.lattice-stand-requires-clause-moving
lattice-stand-requires-clause-moving c =
    let turn = (stretch_limits c.args.tables.now.yard c.args.block c.args.stretch.lo c.args.stretch (subst IsYard c.codes.ensures c.limits.ensures.limits) c.requires.block c.requires.stretch (omega arith) c.requires.some).turn in
    let l = c.requires.block in
    omega arith

pub returns-clause-stand : goal.returns-clause-stand
returns-clause-stand c =
    let y : IsYard c.args.tables.now.yard = subst IsYard c.codes.ensures c.limits.ensures.limits in
    let r = stretch_limits c.args.tables.now.yard c.args.block c.args.stretch.lo c.args.stretch y c.requires.block c.requires.stretch (omega arith) c.requires.some in
    let (block, block_is) = element_at c.args.tables.now.yard.blocks c.args.block c.requires.block in
    let at = c.lattice-stand.ensures in
    let s : Stand = record { stretch = c.args.stretch; lattice = c.lattice-stand.result; near = c.near_to.new.near } in
    let ps = placements-of c.args.tables.now.yard c.args.block block block_is in
    record {
      ground = record {
        grid = subst (λ ps. IsGrid ps s) (sym ps)
            (grid_of_stretch c.args.tables.now.yard c.args.block block at.plate (footprint_at c.args.tables.now.yard (c.args.block * 4 + c.args.stretch.place.turn)) s
            (record {
              limits = y;
              block_is = block_is;
              plate_is = at.plate_is;
              shape_is = shape_in c.args.tables.now.yard c.args.block c.args.stretch.place.turn block c.requires.block r.turn block_is;
              pitch = (let p = at.limits.pitch.0 in omega arith);
              lattice = at.lattice;
              stretch = subst (λ ps. IsStretch ps c.args.stretch) ps c.requires.stretch;
              each = subst (λ ps. HasEach ps c.args.stretch) ps c.requires.each;
              some = c.requires.some;
            }));
        turn = r.turn;
        pitch = subst IsPitch (sym at.lattice.pitch) at.limits.pitch;
        rows = at.lattice.few_rows;
        columns = at.lattice.few_columns;
        neighbours = c.near_to.ensures.each;
      };
      near = c.near_to.ensures.near;
    }
