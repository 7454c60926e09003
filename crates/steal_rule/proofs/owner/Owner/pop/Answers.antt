use Rattle.std.proofs.Common.{arith, ap, ◌∙◌, sym, subst, length, ◌+◌, ◌≡◌, List}
use Rattle.plan_rule.specs.declared.job.Job.{Job}
use Rattle.steal_rule.proofs.SweptLaws.{swept_pushed, swept_emptied, owner_left, owner_took, pop_none, pop_job, took_length, taken_length}
use Rattle.steal_rule.proofs.owner.Owner.pop.Goals as goal

pub invariant_of-self : goal.invariant_of-self
invariant_of-self c =
    let i = c.self.invariant in
    let p = c.sweep.ensures.place in
    let e = c.in_default.ensures.view in
    let same = ap (λ v. v.pushed) e ∙ swept_pushed 64 _ in
    let kept = ap (λ v. v.emptied) e ∙ swept_emptied 64 _ in (
      (i.0.0, p.0 ∙ i.0.1, p.1 ∙ i.0.2),
      (subst (λ (l : List Job). c.self.inside.room + length l ≡ 64) (sym same) i.1.0, i.1.1 ∙ sym (ap length kept), i.1.2),
      owner_left _ _ (omega (arith, i.1.0)) i.2 e,
    )

pub returns-in_default-clause-popped : goal.returns-in_default-clause-popped
returns-in_default-clause-popped c = pop_none _ _ _ _ _ _ c.sweep.ensures.place.0 c.in_default.ensures.view c.self.view_is

pub returns-in_default-clause-few : goal.returns-in_default-clause-few
returns-in_default-clause-few c =
    let i = c.self.invariant in
    let kept = ap (λ v. length v.emptied) c.in_default.ensures.view ∙ ap length (swept_emptied 64 _) in
    omega (arith, i.1.1, i.1.2, kept, taken_length c.sweep.new.place.me.0)

pub invariant_of-self-2 : goal.invariant_of-self-2
invariant_of-self-2 c =
    let i = c.self.invariant in
    let p = c.sweep.ensures.place in
    let (k, low, e) = c.in-Some.ensures.view in
    let same = ap (λ v. v.pushed) e ∙ swept_pushed k _ in
    let more = took_length _ _ _ _ e in (
      (i.0.0, p.0 ∙ i.0.1, p.1 ∙ i.0.2),
      (
        subst (λ (l : List Job). c.self.inside.room + length l ≡ 64) (sym same) i.1.0,
        omega (arith, i.1.1, more),
        omega (arith, i.1.1, more, c.in-Some.ensures.few),
      ),
      owner_took _ _ _ _ i.2 e,
    )

pub returns-clause-popped : goal.returns-clause-popped
returns-clause-popped c =
    let (k, low, e) = c.in-Some.ensures.view in
    (k, low, pop_job _ _ _ _ _ _ _ _ c.sweep.ensures.place.0 e c.self.view_is)
