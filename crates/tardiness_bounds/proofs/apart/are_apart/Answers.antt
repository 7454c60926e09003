use Rattle.std.proofs.Common.{refl, subst}
use Rattle.std.specs.Prelude.{All}
use Rattle.std.proofs.lemmas.Bool.{false≢true}
use Rattle.std.proofs.lemmas.List.{take_all}
use Rattle.std.proofs.lemmas.List.Elements.{All-map, All-more, Contains-get_or}
use Rattle.shape_exact.specs.declared.point.Point.{Point}
use Rattle.minkowski_obstacles.specs.Pairs.{Pair}
use Rattle.lattice_free.specs.Clear.{IsClear}
use Rattle.plan_rule.specs.Clashes.{place_of}
use Rattle.tardiness_bounds.specs.declared.near.Neighbour.{Neighbour}
use Rattle.tardiness_bounds.specs.Footprints.{pair_at}
use Rattle.tardiness_bounds.specs.Neighbours.{obstacle_of, spot_of}
use Rattle.tardiness_bounds.proofs.ClashLaws.{clear_at}
use Rattle.tardiness_bounds.proofs.apart.are_apart.Goals as goal

pub loop-n-preserved : goal.loop-n-preserved
loop-n-preserved c =
    All-more (λ (m : Neighbour). IsClear (place_of c.args.place) (pair_at c.args.tables.now.yard m.footprint c.args.moving) (spot_of m)) c.args.near.now c.loop-n.n-index _ c.loop-n-test.true
    c.loop-n.invariant (c.if-not-is_apart.ensures.0 refl)

pub returns-then-not-is_apart-clause-no : goal.returns-then-not-is_apart-clause-no
returns-then-not-is_apart-clause-no c = λ t clear.
    false≢true (c.if-not-is_apart.ensures.1 (clear_at c.args.tables.now.yard c.args.near.now c.args.moving (place_of c.args.place) _ clear (Contains-get_or c.args.near.now c.loop-n.n-index _ c.loop-n-test.true)))

pub returns-clause-yes : goal.returns-clause-yes
returns-clause-yes c = λ t.
    All-map (λ (o : Pair × Point). IsClear (place_of c.args.place) o.0 o.1) (obstacle_of c.args.tables.now.yard c.args.moving) c.args.near.now
    (subst (All (λ (m : Neighbour). IsClear (place_of c.args.place) (pair_at c.args.tables.now.yard m.footprint c.args.moving) (spot_of m)))
    (take_all c.loop-n.n-index c.args.near.now c.loop-n-test.false) c.loop-n.invariant)
