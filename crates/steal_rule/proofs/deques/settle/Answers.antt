use Rattle.std.proofs.Common.{rules, arith, ap, ◌∙◌, sym, subst, List, ℕ, length, Contains, ◌<◌, ◌≡◌, Option}
use Rattle.std.specs.Option.{IfSome}
use Rattle.std.proofs.lemmas.List.Elements.{All-pop}
use Rattle.plan_rule.specs.declared.job.Job.{Job}
use Rattle.steal_rule.specs.Deques.{Reaching}
use Rattle.steal_rule.proofs.ListLaws.{sum_none}
use Rattle.steal_rule.proofs.SeatLaws.{takes_in}
use Rattle.steal_rule.proofs.SettleLaws.{settles}
use Rattle.steal_rule.proofs.deques.settle.Goals as goal

pub join_seat-requires : goal.join_seat-requires
join_seat-requires c =
    let i = c.loop-reach.invariant in
    let home = c.owner.invariant.0.1 in
    let theirs = subst (λ (o : Option Reaching). IfSome o (λ r. r.deque ≡ c.owner.inside.place.table_id)) c.in-Some.is (All-pop (λ (r : Reaching). r.deque ≡ c.owner.inside.place.table_id) _ _ _ c.pop.ensures.items i.2.same).1 in
    let here = home ∙ ap (λ t. t.shared.table_id) (sym c.deref.ensures) in
    (i.0 ∙ here, ap (λ (r : Reaching). r.deque) c.reach.view_is ∙ theirs ∙ here, search rules, search rules, takes_in _ _ _ _ i.2.live i.2.owns)

pub swap-requires : goal.swap-requires
swap-requires c =
    let i = c.loop-reach.invariant in
    let empty = sum_none (λ (r : Reaching). r.parts) c.loop-reach.reaches.items (let l = c.loop-reach.reaches.ok.0 in let z = c.in_default.ensures.cases in omega arith) in (
      search rules,
      search rules,
      settles _ _ _ i.2.live i.2.owns (omega (arith, i.2.parts, empty)) (λ k in'.
          subst (λ (l : List ℕ). Contains l k) (sym i.2.gone) (c.owner.invariant.2.gone (ap (λ o. o.idle) c.owner.view_is ∙ c.requires.idle) k (subst (λ (l : List Job). k < length l) i.2.pushed in'))),
    )
