use Rattle.std.proofs.Common.{◌≡◌, ◌+◌, [], ◌∷◌, ◌++◌, length, drop, get_or, cond, true, ap, sym, ◌∙◌}
use Rattle.std.proofs.lemmas.List.{at_drop_more, at_drop_all}
use Rattle.plan_rule.specs.declared.literal.Literal.{Literal}
use Rattle.nogood_store.specs.Waits.{past, stops}
use Rattle.nogood_store.proofs.WaitLaws.{past_is, waits_le}
use Rattle.nogood_store.proofs.waits.waits_on.Goals as goal

pub returns-then-stops-clause-waits : goal.returns-then-stops-clause-waits
returns-then-stops-clause-waits c =
    let d : Literal = record { block = 0; lo = 0; hi = 0 } in
    let b = length c.args.codes.now in
    let l = get_or c.args.literals.now c.loop-l.l-index d in
    let more : past b c.args.code (drop c.loop-l.l-index c.args.literals.now) ≡ cond (stops b c.args.code l) l.block (past b c.args.code (drop (c.loop-l.l-index + 1) c.args.literals.now)) =
    at_drop_more (past b c.args.code) c.args.literals.now c.loop-l.l-index d c.loop-l-test.true in
    let stop : stops b c.args.code l ≡ true = sym c.stops.ensures ∙ c.if-stops.true in
    sym (past_is c.args.codes.now c.args.code 0 c.args.literals.now c.requires.rising c.requires.matched c.requires.few
    ∙ sym c.loop-l.invariant ∙ more ∙ ap (λ t. cond t l.block (past b c.args.code (drop (c.loop-l.l-index + 1) c.args.literals.now))) stop)

pub returns-then-stops-clause-below : goal.returns-then-stops-clause-below
returns-then-stops-clause-below c =
    rw (returns-then-stops-clause-waits c) (waits_le (c.args.codes.now ++ c.args.code ∷ []) 0 c.args.literals.now c.requires.rising)

pub returns-clause-waits : goal.returns-clause-waits
returns-clause-waits c =
    let b = length c.args.codes.now in
    let done : past b c.args.code (drop c.loop-l.l-index c.args.literals.now) ≡ 32 =
    at_drop_all (past b c.args.code) c.args.literals.now c.loop-l.l-index c.loop-l-test.false in
    sym (past_is c.args.codes.now c.args.code 0 c.args.literals.now c.requires.rising c.requires.matched c.requires.few
    ∙ sym c.loop-l.invariant ∙ done)
