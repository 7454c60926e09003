use Rattle.std.proofs.Common.{◌≡◌, ◌+◌, List, length, take, get_or, Some, ◌∷◌, ◌++◌, [], refl, sym, ap, ◌∙◌, subst, arith}
use Rattle.std.specs.Prelude.{slice_get}
use Rattle.std.proofs.lemmas.Bool.{iff_false}
use Rattle.std.proofs.lemmas.List.{take_all}
use Rattle.std.proofs.lemmas.Option.{slice_get-get_or}
use Rattle.plan_rule.specs.declared.literal.Literal.{Literal}
use Rattle.plan_rule.specs.Boxes.{exact_code}
use Rattle.plan_rule.specs.Yards.{choices}
use Rattle.tardiness_bounds.specs.Stacks.{PlainFrontier}
use Rattle.tardiness_bounds.proofs.SameLaws.{AreExacts, exacts_inside, exacts_more, exacts_none, exacts_past, may_push, one_code}
use Rattle.tardiness_bounds.proofs.frontier.Frontier.of.Goals as goal
use Rattle.tardiness_bounds.proofs.frontier.Frontier.of.Goals.{then-is_exact, else-is_exact}

pub loop-l-init : goal.loop-l-init
loop-l-init c = record {
  yard = c.in_ok-frontier.ensures.yard;
  exacts = subst (AreExacts (choices c.args.tables.now.yard) c.args.part.now 0) (sym c.in_ok-frontier.ensures.empty) (exacts_none (choices c.args.tables.now.yard) c.args.part.now);
}

pub push-requires : goal.push-requires
push-requires c =
    let at : slice_get c.args.part.now c.loop-l.l-index ≡ Some (get_or c.literals-l-items.result.now c.loop-l.l-index (record { block = 0; lo = 0; hi = 0 })) =
    subst (λ (xs : List Literal). slice_get xs c.loop-l.l-index ≡ Some (get_or c.literals-l-items.result.now c.loop-l.l-index (record { block = 0; lo = 0; hi = 0 }))) c.literals-l-items.ensures.value
    (slice_get-get_or c.literals-l-items.result.now c.loop-l.l-index (record { block = 0; lo = 0; hi = 0 }) c.loop-l-test.true) in
    may_push c.args.tables.now.yard c.args.part.now c.loop-l.frontier c.loop-l.l-index (get_or c.literals-l-items.result.now c.loop-l.l-index (record { block = 0; lo = 0; hi = 0 }))
    c.requires c.loop-l.invariant.yard c.loop-l.invariant.exacts at

pub loop-l-preserved : goal.loop-l-preserved
loop-l-preserved c =
    let l : Literal = get_or c.literals-l-items.result.now c.loop-l.l-index (record { block = 0; lo = 0; hi = 0 }) in
    let at : slice_get c.args.part.now c.loop-l.l-index ≡ Some (get_or c.literals-l-items.result.now c.loop-l.l-index (record { block = 0; lo = 0; hi = 0 })) =
    subst (λ (xs : List Literal). slice_get xs c.loop-l.l-index ≡ Some (get_or c.literals-l-items.result.now c.loop-l.l-index (record { block = 0; lo = 0; hi = 0 }))) c.literals-l-items.ensures.value
    (slice_get-get_or c.literals-l-items.result.now c.loop-l.l-index (record { block = 0; lo = 0; hi = 0 }) c.loop-l-test.true) in
    elim c.if-is_exact.branch [
      | then-is_exact w ↦ record {
        yard = ap (λ (p : PlainFrontier). p.yard) w.frontier-is ∙ w.push.ensures.yard ∙ c.loop-l.invariant.yard;
        exacts = exacts_more (choices c.args.tables.now.yard) c.args.part.now c.loop-l.frontier.literals c.if-is_exact.frontier.literals c.loop-l.l-index
            (get_or c.literals-l-items.result.now c.loop-l.l-index (record { block = 0; lo = 0; hi = 0 }))
            c.requires.ascending c.loop-l.invariant.exacts at
            (ap (λ (p : PlainFrontier). p.literals) w.frontier-is ∙ w.push.ensures.pushed ∙ ap (λ (m : Literal). c.loop-l.frontier.literals ++ m ∷ []) (sym (w.if-is_exact.ensures.0 refl)));
      }
      | else-is_exact w ↦ record {
        yard = ap (λ (p : PlainFrontier). p.yard) w.frontier-is ∙ c.loop-l.invariant.yard;
        exacts = subst (λ (p : PlainFrontier). AreExacts (choices c.args.tables.now.yard) c.args.part.now (c.loop-l.l-index + 1) p.literals) (sym w.frontier-is)
            (exacts_past (choices c.args.tables.now.yard) c.args.part.now c.loop-l.frontier.literals c.loop-l.l-index
            (get_or c.literals-l-items.result.now c.loop-l.l-index (record { block = 0; lo = 0; hi = 0 }))
            c.requires.ascending c.loop-l.invariant.exacts at
            (λ e. iff_false c.is_exact.ensures w.if-is_exact.false (one_code _ e)));
      }
    ]

pub returns-clause-exacts : goal.returns-clause-exacts
returns-clause-exacts c =
    let end : take c.loop-l.l-index c.args.part.now ≡ c.args.part.now =
    take_all c.loop-l.l-index c.args.part.now (let e = ap length c.literals-l-items.ensures.value in let l = c.loop-l-test.false in omega arith) in
    λ b. c.loop-l.invariant.exacts.same b ∙ ap (λ xs. exact_code xs b) end

pub returns-clause-from : goal.returns-clause-from
returns-clause-from c = exacts_inside (choices c.args.tables.now.yard) c.args.part.now c.loop-l.frontier.literals c.loop-l.l-index c.loop-l.invariant.exacts
