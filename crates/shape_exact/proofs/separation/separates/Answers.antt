use Rattle.std.proofs.Common.{arith, subst}
use Rattle.shape_exact.specs.Shapes.{IsShape}
use Rattle.shape_exact.specs.Separation.{way}
use Rattle.shape_exact.proofs.FormLaws.{within}
use Rattle.shape_exact.proofs.ApartLaws.{separation, edge_as, sees_as}
use Rattle.shape_exact.proofs.separation.separates.Goals as goal

pub has_separating_edge-requires-clause-a : goal.has_separating_edge-requires-clause-a
has_separating_edge-requires-clause-a c = within c.points.result.now c.points.ensures.shape

pub has_separating_edge-requires-clause-b : goal.has_separating_edge-requires-clause-b
has_separating_edge-requires-clause-b c = within c.points-2.result.now c.points-2.ensures.shape

pub returns-clause-edge : goal.returns-clause-edge
returns-clause-edge c = λ t.
    edge_as c.points.result.now c.points-2.result.now c.args.a.now c.args.b.now c.shift_from.result (way c.args.at_a c.args.at_b)
    c.points.ensures.value c.points-2.ensures.value c.shift_from.ensures.value (c.has_separating_edge.ensures.some t)

pub returns-clause-none : goal.returns-clause-none
returns-clause-none c = λ t.
    sees_as c.points.result.now c.points-2.result.now c.args.a.now c.args.b.now c.shift_from.result (way c.args.at_a c.args.at_b)
    c.points.ensures.value c.points-2.ensures.value c.shift_from.ensures.value (c.has_separating_edge.ensures.none t)

pub returns-clause-apart : goal.returns-clause-apart
returns-clause-apart c = λ t.
    let s : IsShape c.args.b.now = subst IsShape c.points-2.ensures.value c.points-2.ensures.shape in
    separation c.args.a.now c.args.b.now c.args.at_a c.args.at_b (let n = s.some in omega arith)
    (edge_as c.points.result.now c.points-2.result.now c.args.a.now c.args.b.now c.shift_from.result (way c.args.at_a c.args.at_b)
    c.points.ensures.value c.points-2.ensures.value c.shift_from.ensures.value (c.has_separating_edge.ensures.some t))
