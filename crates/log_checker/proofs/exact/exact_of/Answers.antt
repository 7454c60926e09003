use Rattle.std.proofs.Common.{◌≡◌, ◌+◌, length, sym, ap, ◌∙◌, subst, refl, arith}
use Rattle.std.proofs.lemmas.Bool.{false≢true}
use Rattle.std.proofs.lemmas.List.{take_all}
use Rattle.std.proofs.lemmas.List.Elements.{All-push}
use Rattle.std.specs.Prelude.{All}
use Rattle.log_checker.specs.ExactBlocks.{IsStanding}
use Rattle.log_checker.proofs.ExactLaws.{ExactTo, exact_at, exact_next, exact_skip, literal_facts, all_exact}
use Rattle.log_checker.proofs.exact.exact_of.Goals as goal
use Rattle.log_checker.proofs.exact.exact_of.Goals.{then-is_exact, else-is_exact}

pub place-requires-clause-block : goal.place-requires-clause-block
place-requires-clause-block c =
    (literal_facts c.args.codes.now c.args.side.now c.literals-l-items.result.now c.loop-l.l-index _ c.literals-l-items.ensures.value c.requires c.loop-l-test.true).0

pub place-requires-clause-code : goal.place-requires-clause-code
place-requires-clause-code c =
    (literal_facts c.args.codes.now c.args.side.now c.literals-l-items.result.now c.loop-l.l-index _ c.literals-l-items.ensures.value c.requires c.loop-l-test.true).1

pub push-requires : goal.push-requires
push-requires c =
    let facts = literal_facts c.args.codes.now c.args.side.now c.literals-l-items.result.now c.loop-l.l-index (record { block = 0; lo = 0; hi = 0 })
    c.literals-l-items.ensures.value c.requires c.loop-l-test.true in
    let few = c.loop-l.invariant.few in
    let limit = c.limits.ensures.limits.few_blocks in
    (omega arith, omega arith)

pub loop-l-preserved : goal.loop-l-preserved
loop-l-preserved c =
    let few = c.loop-l.invariant.few in elim c.if-is_exact.branch [
      | then-is_exact w ↦ record {
        few = let n : length c.if-is_exact.list.items ≡ length c.loop-l.list.items + 1 = ap (λ v. length v.items) w.list-is ∙ w.push.ensures.len in omega arith;
        exacts = exact_next c.args.codes.now c.literals-l-items.result.now c.loop-l.list.items _ c.loop-l.l-index _ w.place.result c.loop-l-test.true
            (ap (λ v. v.items) w.list-is ∙ w.push.ensures.items) (w.if-is_exact.ensures.0 refl) w.place.ensures.value c.loop-l.invariant.exacts;
        standing =
            let facts = literal_facts c.args.codes.now c.args.side.now c.literals-l-items.result.now c.loop-l.l-index (record { block = 0; lo = 0; hi = 0 })
            c.literals-l-items.ensures.value c.requires c.loop-l-test.true in
            subst (All (IsStanding c.args.codes.now)) (sym (ap (λ v. v.items) w.list-is ∙ w.push.ensures.items))
            (All-push (IsStanding c.args.codes.now) c.loop-l.list.items (exact_at _ w.place.result) c.loop-l.invariant.standing
            (record { block = facts.0; turn = w.place.ensures.turn; x = w.place.ensures.x; y = w.place.ensures.y }));
      }
      | else-is_exact w ↦ record {
        few = let n : length c.if-is_exact.list.items ≡ length c.loop-l.list.items = ap (λ v. length v.items) w.list-is in omega arith;
        exacts = exact_skip c.args.codes.now c.literals-l-items.result.now c.loop-l.list.items _ c.loop-l.l-index _ c.loop-l-test.true
            (ap (λ v. v.items) w.list-is) (λ e. false≢true (w.if-is_exact.ensures.1 e)) c.loop-l.invariant.exacts;
        standing = subst (All (IsStanding c.args.codes.now)) (sym (ap (λ v. v.items) w.list-is)) c.loop-l.invariant.standing;
      }
    ]

pub returns-clause-exacts : goal.returns-clause-exacts
returns-clause-exacts c =
    let all = subst (λ ls. ExactTo c.args.codes.now ls c.loop-l.list.items) (take_all c.loop-l.l-index c.literals-l-items.result.now c.loop-l-test.false)
    c.loop-l.invariant.exacts in
    all_exact c.args.codes.now c.args.side.now c.loop-l.list.items c.requires.ascending
    (subst (λ ls. ExactTo c.args.codes.now ls c.loop-l.list.items) c.literals-l-items.ensures.value all)
