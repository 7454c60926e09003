use Rattle.std.proofs.Common.{FitsSigned, w32, refl, pos, ◌-ℤ◌}
use Rattle.std.proofs.lemmas.Int.{to_z-of_z}
use Rattle.plan_rule.specs.Clashes.{place_of}
use Rattle.lattice_free.proofs.PlaceLaws.{clear_from}
use Rattle.tardiness_bounds.specs.Footprints.{pair_at}
use Rattle.tardiness_bounds.specs.Neighbours.{spot_of}
use Rattle.tardiness_bounds.proofs.KeptLaws.{clear_by_row, ends_fit}
use Rattle.tardiness_bounds.proofs.apart.is_apart.Goals as goal

pub returns-in-None : goal.returns-in-None
returns-in-None c = let p = place_of c.args.place in let at = spot_of c.args.n in
    (λ t. clear_from (pair_at c.args.tables.now.yard c.args.n.footprint c.args.moving) at p (c.in-None.ensures (pos c.args.place.x -ℤ pos c.args.n.x)), λ clear. refl)

pub returns-in-Some : goal.returns-in-Some
returns-in-Some c =
    let ends = ends_fit c.in-Some.low c.in-Some.high c.in-Some.ensures.1 c.in-Some.ensures.0.some c.in-Some.ensures.2 in
    let f1 : FitsSigned w32 c.in-Some.low = ends.0 in
    let f2 : FitsSigned w32 c.in-Some.high = ends.1 in
    let f3 : FitsSigned w32 c.way.result = record { sfits = c.way.type_inv } in
    let told = simp to_z-of_z at c.is_outside.ensures in
    clear_by_row (pair_at c.args.tables.now.yard c.args.n.footprint c.args.moving) (spot_of c.args.n) (place_of c.args.place) c.way.result c.in-Some.low c.in-Some.high c.is_outside.result
    c.way.ensures c.in-Some.ensures.0 told
