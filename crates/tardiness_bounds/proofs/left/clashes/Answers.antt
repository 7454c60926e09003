use Rattle.std.proofs.Common.{◌+◌, ◌*◌, refl, sym, subst}
use Rattle.std.specs.Prelude.{IsTrue, ◌↔◌}
use Rattle.lattice_free.specs.Clear.{IsClear}
use Rattle.plan_rule.specs.Clashes.{place_of}
use Rattle.tardiness_bounds.specs.declared.near.Neighbour.{Neighbour}
use Rattle.tardiness_bounds.specs.Footprints.{pair_at}
use Rattle.tardiness_bounds.specs.Neighbours.{IsNeighbour, spot_of}
use Rattle.tardiness_bounds.proofs.ClashLaws.{clash_by_footprints}
use Rattle.tardiness_bounds.proofs.NearLaws.{neighbour_block}
use Rattle.tardiness_bounds.proofs.left.clashes.Goals as goal

pub is_apart-requires-clause-near : goal.is_apart-requires-clause-near
is_apart-requires-clause-near c =
    subst (IsNeighbour c.args.tables.now.yard) (sym c.of_standing.ensures) (neighbour_block c.args.tables.now.yard c.args.f c.requires.standing)

pub returns : goal.returns
returns c =
    clash_by_footprints c.args.tables.now.yard c.args.f c.args.block c.args.place c.is_apart.result c.requires.standing c.requires.block c.requires.turn
    (c.if-not-may_clash.ensures.0 refl)
    (subst (λ (n : Neighbour). IsTrue c.is_apart.result ↔ IsClear (place_of c.args.place) (pair_at c.args.tables.now.yard n.footprint (c.args.block * 4 + c.args.place.turn)) (spot_of n))
    c.of_standing.ensures c.is_apart.ensures)
