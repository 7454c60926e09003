use Rattle.std.proofs.Common.{◌≡◌, Some, arith, subst, sym, ◌∙◌, inl, inr}
use Rattle.std.specs.Prelude.{slice_get}
use Rattle.std.proofs.lemmas.Bool.{cases_lt, false≢true}
use Rattle.std.proofs.lemmas.Option.{get_or_from_slice_get}
use Rattle.plan_rule.specs.Yards.{choices}
use Rattle.plan_rule.specs.Boxes.{Covers}
use Rattle.nogood_store.specs.declared.nogood.Nogood.{Nogood}
use Rattle.nogood_store.proofs.containers.first_container.Goals as goal

pub loop-place-preserved : goal.loop-place-preserved
loop-place-preserved c = λ j n l at cover. elim (cases_lt j c.loop-place.place) [
  | inl old ↦ c.loop-place.invariant j n old at cover
  | inr last ↦
      let e : j ≡ c.loop-place.place = omega arith in
      let here : slice_get c.args.list.now c.loop-place.place ≡ Some n = subst (λ j. slice_get c.args.list.now j ≡ Some n) e at in
      let same = get_or_from_slice_get c.args.list.now c.loop-place.place n c.index-list-place.result here in
      false≢true (sym c.if-contains.false ∙ c.contains.ensures.1
      (subst (λ (m : Nogood). Covers (choices c.args.codes.now) m.part c.args.part.now) (sym same) cover))
]
