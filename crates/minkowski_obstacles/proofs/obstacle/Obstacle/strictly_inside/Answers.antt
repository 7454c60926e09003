use Rattle.std.proofs.Common.{pos, ◌≤ℤ◌, ◌<ℤ◌, List, subst}
use Rattle.std.specs.List.{All, Any}
use Rattle.minkowski_obstacles.specs.declared.side.Side.{Side}
use Rattle.minkowski_obstacles.specs.Sums.{value}
use Rattle.minkowski_obstacles.specs.Pairs.{Pair, Overlap, AreApartAt}
use Rattle.minkowski_obstacles.proofs.ObstacleLaws.{inside_sum, outside_sum}
use Rattle.minkowski_obstacles.proofs.obstacle.Obstacle.strictly_inside.Goals as goal

pub returns-clause-inside : goal.returns-clause-inside
returns-clause-inside c = λ t.
    let o = c.self.inside in
    let i = c.self.invariant in
    subst (λ (p : Pair). Overlap p c.args.offset) c.self.view_is
    (inside_sum o.fixed o.moving o.sides.items c.args.offset i.fixed_shape i.moving_shape i.sum
    (subst (λ (ss : List Side). All (λ s. pos 0 <ℤ value s c.args.offset) ss) c.as_slice.ensures.value (c.is_within.ensures.inside t)))

pub returns-clause-outside : goal.returns-clause-outside
returns-clause-outside c = λ t.
    let o = c.self.inside in
    let i = c.self.invariant in
    subst (λ (p : Pair). AreApartAt p c.args.offset) c.self.view_is
    (outside_sum o.fixed o.moving o.sides.items c.args.offset i.fixed_shape i.moving_shape i.sum
    (subst (λ (ss : List Side). Any (λ s. value s c.args.offset ≤ℤ pos 0) ss) c.as_slice.ensures.value (c.is_within.ensures.outside t)))
