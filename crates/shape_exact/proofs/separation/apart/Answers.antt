use Rattle.std.proofs.Common.{arith, subst, inl, inr}
use Rattle.std.proofs.lemmas.Bool.{cases_Bool}
use Rattle.shape_exact.specs.Shapes.{IsShape}
use Rattle.shape_exact.specs.Separation.{way}
use Rattle.shape_exact.proofs.FormLaws.{within}
use Rattle.shape_exact.proofs.ApartLaws.{separation, apart_both, shared, shared_not_apart, edge_as, sees_as}
use Rattle.shape_exact.proofs.separation.apart.Goals as goal

pub has_separating_edge-requires-clause-a : goal.has_separating_edge-requires-clause-a
has_separating_edge-requires-clause-a c = within c.points-first.result.now c.points-first.ensures.shape

pub has_separating_edge-requires-clause-b : goal.has_separating_edge-requires-clause-b
has_separating_edge-requires-clause-b c = within c.points-second.result.now c.points-second.ensures.shape

pub has_separating_edge-requires-else-has_separating_edge-clause-a : goal.has_separating_edge-requires-else-has_separating_edge-clause-a
has_separating_edge-requires-else-has_separating_edge-clause-a c = within c.points-second.result.now c.points-second.ensures.shape

pub has_separating_edge-requires-else-has_separating_edge-clause-b : goal.has_separating_edge-requires-else-has_separating_edge-clause-b
has_separating_edge-requires-else-has_separating_edge-clause-b c = within c.points-first.result.now c.points-first.ensures.shape

pub returns-then-has_separating_edge-clause-apart : goal.returns-then-has_separating_edge-clause-apart
returns-then-has_separating_edge-clause-apart c =
    let s : IsShape c.args.b.now = subst IsShape c.points-second.ensures.value c.points-second.ensures.shape in (
      λ t. separation c.args.a.now c.args.b.now c.args.at_a c.args.at_b (let n = s.some in omega arith)
          (edge_as c.points-first.result.now c.points-second.result.now c.args.a.now c.args.b.now c.shift_from-there.result (way c.args.at_a c.args.at_b)
          c.points-first.ensures.value c.points-second.ensures.value c.shift_from-there.ensures.value (c.has_separating_edge.ensures.some c.if-has_separating_edge.true)),
      λ h. c.if-has_separating_edge.true,
    )

pub returns-else-has_separating_edge-clause-common : goal.returns-else-has_separating_edge-clause-common
returns-else-has_separating_edge-clause-common c = λ f.
    shared c.args.a.now c.args.b.now c.args.at_a c.args.at_b (subst IsShape c.points-first.ensures.value c.points-first.ensures.shape) (subst IsShape c.points-second.ensures.value c.points-second.ensures.shape)
    (sees_as c.points-first.result.now c.points-second.result.now c.args.a.now c.args.b.now c.shift_from-there.result (way c.args.at_a c.args.at_b)
    c.points-first.ensures.value c.points-second.ensures.value c.shift_from-there.ensures.value (c.has_separating_edge.ensures.none c.if-has_separating_edge.false))
    (sees_as c.points-second.result.now c.points-first.result.now c.args.b.now c.args.a.now c.shift_from-back.result (way c.args.at_b c.args.at_a)
    c.points-second.ensures.value c.points-first.ensures.value c.shift_from-back.ensures.value (c.has_separating_edge-else-has_separating_edge.ensures.none f))

pub returns-else-has_separating_edge-clause-apart : goal.returns-else-has_separating_edge-clause-apart
returns-else-has_separating_edge-clause-apart c =
    let s : IsShape c.args.a.now = subst IsShape c.points-first.ensures.value c.points-first.ensures.shape in (
      λ t. apart_both c.args.b.now c.args.a.now c.args.at_b c.args.at_a (separation c.args.b.now c.args.a.now c.args.at_b c.args.at_a (let n = s.some in omega arith)
          (edge_as c.points-second.result.now c.points-first.result.now c.args.b.now c.args.a.now c.shift_from-back.result (way c.args.at_b c.args.at_a)
          c.points-second.ensures.value c.points-first.ensures.value c.shift_from-back.ensures.value (c.has_separating_edge-else-has_separating_edge.ensures.some t))),
      λ h. elim (cases_Bool c.has_separating_edge-else-has_separating_edge.result) [
        | inl t ↦ t
        | inr f ↦ absurd (shared_not_apart c.args.a.now c.args.b.now c.args.at_a c.args.at_b (returns-else-has_separating_edge-clause-common c f) h)
      ],
    )
