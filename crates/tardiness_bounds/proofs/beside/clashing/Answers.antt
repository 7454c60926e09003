use Rattle.std.proofs.Common.{◌+◌, refl, sym, ap, ◌∙◌, subst, take}
use Rattle.std.specs.Prelude.{All, MatchOption, not}
use Rattle.std.specs.Option.{is_some}
use Rattle.std.proofs.lemmas.Bool.{false≢true}
use Rattle.std.proofs.lemmas.List.{take_all}
use Rattle.std.proofs.lemmas.List.Elements.{All-more}
use Rattle.tardiness_bounds.specs.declared.standing.Standing.{Standing}
use Rattle.tardiness_bounds.specs.Besides.{ClashesBeside}
use Rattle.tardiness_bounds.specs.Standings.{ClashesAt}
use Rattle.tardiness_bounds.proofs.BesideLaws.{clash_found, found_stays}
use Rattle.tardiness_bounds.proofs.beside.clashing.Goals as goal
use Rattle.tardiness_bounds.proofs.beside.clashing.Goals.{then-clashes+else-asked-f+then-is_none, then-clashes+else-asked-f+else-is_none, else-clashes}

pub loop-f-preserved : goal.loop-f-preserved
loop-f-preserved c =
    elim c.if-clashes.branch [
      | then-clashes+else-asked-f+then-is_none w ↦ subst (λ o. MatchOption o (All (λ (f : Standing). ClashesAt c.args.tables.now.yard f c.args.block c.args.place → ⊥) (take (c.loop-f.f-index + 1) c.args.list.now))
          (ClashesBeside c.args.tables.now.yard c.args.list.now c.args.block c.args.place)) (sym w.found-is)
          (clash_found c.args.tables.now.yard c.args.list.now c.args.block c.args.place c.loop-f.f-index _ c.loop-f-test.true (c.clashes.ensures.0 w.if-clashes.true))
      | then-clashes+else-asked-f+else-is_none w ↦ found_stays _ _ _ c.loop-f.found c.if-clashes.found w.found-is
          (λ e. absurd (false≢true (sym (ap is_some e) ∙ w.is_none.ensures ∙ ap not w.if-is_none.false))) c.loop-f.invariant
      | else-clashes w ↦ found_stays _ _ _ c.loop-f.found c.if-clashes.found w.found-is
          (λ _ all. All-more (λ (f : Standing). ClashesAt c.args.tables.now.yard f c.args.block c.args.place → ⊥) c.args.list.now c.loop-f.f-index _ c.loop-f-test.true
          all (λ m. false≢true (sym w.if-clashes.false ∙ c.clashes.ensures.1 m))) c.loop-f.invariant
    ]

pub returns : goal.returns
returns c = found_stays _ _ _ c.loop-f.found c.loop-f.found refl
    (λ _. subst (All (λ (f : Standing). ClashesAt c.args.tables.now.yard f c.args.block c.args.place → ⊥)) (take_all c.loop-f.f-index c.args.list.now c.loop-f-test.false)) c.loop-f.invariant
