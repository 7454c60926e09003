use Rattle.std.proofs.Common.{refl, subst}
use Rattle.std.specs.Prelude.{All}
use Rattle.std.proofs.lemmas.Bool.{false≢true}
use Rattle.std.proofs.lemmas.List.{take_all}
use Rattle.std.proofs.lemmas.List.Elements.{All-more}
use Rattle.tardiness_bounds.specs.declared.standing.Standing.{Standing}
use Rattle.tardiness_bounds.specs.Standings.{ClashesAt}
use Rattle.tardiness_bounds.proofs.clear.clashes_with_none.Goals as goal

pub loop-f-preserved : goal.loop-f-preserved
loop-f-preserved c =
    All-more (λ (f : Standing). ClashesAt c.args.tables.now.yard f c.args.block c.args.place → ⊥) c.args.list.now c.loop-f.f-index _ c.loop-f-test.true
    c.loop-f.invariant (λ m. false≢true (c.if-clashes.ensures.1 m))

pub returns-then-clashes-clause-no : goal.returns-then-clashes-clause-no
returns-then-clashes-clause-no c = λ t all. all c.loop-f.f-index _ c.loop-f-test.true (c.if-clashes.ensures.0 refl)

pub returns-clause-yes : goal.returns-clause-yes
returns-clause-yes c = λ t.
    subst (All (λ (f : Standing). ClashesAt c.args.tables.now.yard f c.args.block c.args.place → ⊥)) (take_all c.loop-f.f-index c.args.list.now c.loop-f-test.false) c.loop-f.invariant
