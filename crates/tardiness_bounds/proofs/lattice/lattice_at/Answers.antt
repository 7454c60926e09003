use Rattle.std.proofs.Common.{refl, subst}
use Rattle.tardiness_bounds.specs.Lattices.{IsLattice}
use Rattle.tardiness_bounds.proofs.SpotLaws.{plate_read}
use Rattle.tardiness_bounds.proofs.lattice.lattice_at.Goals as goal

pub lattice_of-requires-clause-pitch : goal.lattice_of-requires-clause-pitch
lattice_of-requires-clause-pitch c =
    let (at, limits) = plate_read c.args.codes.now c.args.codes.now c.yard.result.now c.plates-plates.result.now c.args.number c.index-plates-number.result c.yard.ensures.limits
    refl c.yard.ensures.value c.plates-plates.ensures.value c.requires.plate c.index-plates-number.is in
    limits.pitch.0

pub lattice_of-requires-clause-width : goal.lattice_of-requires-clause-width
lattice_of-requires-clause-width c =
    let (at, limits) = plate_read c.args.codes.now c.args.codes.now c.yard.result.now c.plates-plates.result.now c.args.number c.index-plates-number.result c.yard.ensures.limits
    refl c.yard.ensures.value c.plates-plates.ensures.value c.requires.plate c.index-plates-number.is in
    limits.width.1

pub lattice_of-requires-clause-height : goal.lattice_of-requires-clause-height
lattice_of-requires-clause-height c =
    let (at, limits) = plate_read c.args.codes.now c.args.codes.now c.yard.result.now c.plates-plates.result.now c.args.number c.index-plates-number.result c.yard.ensures.limits
    refl c.yard.ensures.value c.plates-plates.ensures.value c.requires.plate c.index-plates-number.is in
    limits.height.1

pub returns : goal.returns
returns c =
    let (at, limits) = plate_read c.args.codes.now c.args.codes.now c.yard.result.now c.plates-plates.result.now c.args.number c.index-plates-number.result c.yard.ensures.limits
    refl c.yard.ensures.value c.plates-plates.ensures.value c.requires.plate c.index-plates-number.is in
    record {
      plate = c.index-plates-number.result;
      plate_is = at;
      limits = limits;
      lattice = subst (λ shape. IsLattice c.index-plates-number.result shape c.lattice_of.result) c.footprint_at.ensures
          (record {
            pitch = c.lattice_of.ensures.pitch;
            rows = c.lattice_of.ensures.rows;
            columns = c.lattice_of.ensures.columns;
            few_rows = c.lattice_of.ensures.few.0;
            few_columns = c.lattice_of.ensures.few.1;
          });
    }
