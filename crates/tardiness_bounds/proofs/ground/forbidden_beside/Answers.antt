use Rattle.std.proofs.Common.{FitsSigned, w32, pos, ◌-ℤ◌, ◌*◌}
use Rattle.std.proofs.lemmas.Int.{to_z-of_z}
use Rattle.lattice_free.specs.Runs.{place}
use Rattle.lattice_free.proofs.PlaceLaws.{clear_from, row_clear, row_free, row_held}
use Rattle.tardiness_bounds.specs.Footprints.{pair_at}
use Rattle.tardiness_bounds.specs.Neighbours.{spot_of}
use Rattle.tardiness_bounds.proofs.KeptLaws.{ends_fit, ends_small, moved_none, moved_some}
use Rattle.tardiness_bounds.proofs.ground.forbidden_beside.Goals as goal

pub returns-in-None-clause-none : goal.returns-in-None-clause-none
returns-in-None-clause-none c = λ k l.
    clear_from (pair_at c.args.tables.now.yard c.args.n.footprint c.args.moving) (spot_of c.args.n) (place c.args.pitch c.args.row k)
    (c.in-None.ensures (pos (k * c.args.pitch) -ℤ pos c.args.n.x))

pub returns-in-Some-clause-none : goal.returns-in-Some-clause-none
returns-in-Some-clause-none c =
    let ends = ends_fit c.in-Some.low c.in-Some.high c.in-Some.ensures.1 c.in-Some.ensures.0.some c.in-Some.ensures.2 in
    let f1 : FitsSigned w32 c.in-Some.low = ends.0 in
    let f2 : FitsSigned w32 c.in-Some.high = ends.1 in
    let f3 : FitsSigned w32 c.moved.result = record { sfits = c.moved.type_inv } in
    let f4 : FitsSigned w32 c.moved-in-Some.result = record { sfits = c.moved-in-Some.type_inv } in
    let v1 = simp to_z-of_z at c.moved.ensures.value in
    let v2 = simp to_z-of_z at c.moved-in-Some.ensures.value in
    let h = simp to_z-of_z at c.columns_between.ensures.none in
    row_free (pair_at c.args.tables.now.yard c.args.n.footprint c.args.moving) (spot_of c.args.n) c.args.pitch c.args.row c.args.columns c.in-Some.low c.in-Some.high c.columns_between.result
    c.in-Some.ensures.0
    (moved_none c.in-Some.low c.in-Some.high c.moved.result c.moved-in-Some.result c.args.n.x c.args.pitch c.args.columns c.columns_between.result v1 v2 h)

pub returns-in-Some-clause-held : goal.returns-in-Some-clause-held
returns-in-Some-clause-held c =
    let ends = ends_fit c.in-Some.low c.in-Some.high c.in-Some.ensures.1 c.in-Some.ensures.0.some c.in-Some.ensures.2 in
    let f1 : FitsSigned w32 c.in-Some.low = ends.0 in
    let f2 : FitsSigned w32 c.in-Some.high = ends.1 in
    let f3 : FitsSigned w32 c.moved.result = record { sfits = c.moved.type_inv } in
    let f4 : FitsSigned w32 c.moved-in-Some.result = record { sfits = c.moved-in-Some.type_inv } in
    let v1 = simp to_z-of_z at c.moved.ensures.value in
    let v2 = simp to_z-of_z at c.moved-in-Some.ensures.value in
    let h = simp to_z-of_z at c.columns_between.ensures.some in
    row_held (pair_at c.args.tables.now.yard c.args.n.footprint c.args.moving) (spot_of c.args.n) c.args.pitch c.args.row c.args.columns c.in-Some.low c.in-Some.high c.columns_between.result
    c.in-Some.ensures.0
    (moved_some c.in-Some.low c.in-Some.high c.moved.result c.moved-in-Some.result c.args.n.x c.args.pitch c.args.columns c.columns_between.result v1 v2 h)

pub returns-in-Some-clause-clear : goal.returns-in-Some-clause-clear
returns-in-Some-clause-clear c =
    let ends = ends_fit c.in-Some.low c.in-Some.high c.in-Some.ensures.1 c.in-Some.ensures.0.some c.in-Some.ensures.2 in
    let f1 : FitsSigned w32 c.in-Some.low = ends.0 in
    let f2 : FitsSigned w32 c.in-Some.high = ends.1 in
    let f3 : FitsSigned w32 c.moved.result = record { sfits = c.moved.type_inv } in
    let f4 : FitsSigned w32 c.moved-in-Some.result = record { sfits = c.moved-in-Some.type_inv } in
    let v1 = simp to_z-of_z at c.moved.ensures.value in
    let v2 = simp to_z-of_z at c.moved-in-Some.ensures.value in
    let h = simp to_z-of_z at c.columns_between.ensures.some in
    row_clear (pair_at c.args.tables.now.yard c.args.n.footprint c.args.moving) (spot_of c.args.n) c.args.pitch c.args.row c.args.columns c.in-Some.low c.in-Some.high c.columns_between.result
    c.in-Some.ensures.0
    (moved_some c.in-Some.low c.in-Some.high c.moved.result c.moved-in-Some.result c.args.n.x c.args.pitch c.args.columns c.columns_between.result v1 v2 h)

pub moved-requires-clause-high : goal.moved-requires-clause-high
moved-requires-clause-high c =
    let ends = ends_fit c.in-Some.low c.in-Some.high c.in-Some.ensures.1 c.in-Some.ensures.0.some c.in-Some.ensures.2 in
    let f1 : FitsSigned w32 c.in-Some.low = ends.0 in
    let f2 : FitsSigned w32 c.in-Some.high = ends.1 in
    simp to_z-of_z (ends_small c.in-Some.low c.in-Some.high c.in-Some.ensures.1 c.in-Some.ensures.0.some c.in-Some.ensures.2).0

pub moved-requires-in-Some-clause-low : goal.moved-requires-in-Some-clause-low
moved-requires-in-Some-clause-low c =
    let ends = ends_fit c.in-Some.low c.in-Some.high c.in-Some.ensures.1 c.in-Some.ensures.0.some c.in-Some.ensures.2 in
    let f1 : FitsSigned w32 c.in-Some.low = ends.0 in
    let f2 : FitsSigned w32 c.in-Some.high = ends.1 in
    simp to_z-of_z (ends_small c.in-Some.low c.in-Some.high c.in-Some.ensures.1 c.in-Some.ensures.0.some c.in-Some.ensures.2).1
