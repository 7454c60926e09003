use Rattle.std.proofs.Common.{ap, ◌∙◌}
use Rattle.steal_rule.proofs.SweptLaws.{swept_parts, reach_left, reach_took, steal_none, steal_job}
use Rattle.steal_rule.proofs.reach.Reach.steal.Goals as goal

pub invariant_of-self : goal.invariant_of-self
invariant_of-self c =
    let i = c.self.invariant in
    let p = c.sweep.ensures.place in
    let e = c.in_default.ensures.view in
    ((i.0.0, p.0 ∙ i.0.1, p.1 ∙ i.0.2), ap (λ v. v.parts) e ∙ swept_parts _ _ ∙ i.1, reach_left _ _ i.2 e)

pub returns-in_default-clause-stolen : goal.returns-in_default-clause-stolen
returns-in_default-clause-stolen c = steal_none _ _ _ _ _ _ c.sweep.ensures.place.0 c.in_default.ensures.view c.self.view_is

pub invariant_of-self-2 : goal.invariant_of-self-2
invariant_of-self-2 c =
    let i = c.self.invariant in
    let p = c.sweep.ensures.place in
    let (k, low, e) = c.in-Some.ensures.view in
    ((i.0.0, p.0 ∙ i.0.1, p.1 ∙ i.0.2), ap (λ v. v.parts) e ∙ swept_parts _ _ ∙ i.1, reach_took _ _ _ _ i.2 e)

pub returns-clause-stolen : goal.returns-clause-stolen
returns-clause-stolen c =
    let (k, low, e) = c.in-Some.ensures.view in
    (k, low, steal_job _ _ _ _ _ _ _ _ low c.sweep.ensures.place.0 e c.self.view_is)
