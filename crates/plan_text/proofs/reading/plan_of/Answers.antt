use Rattle.std.proofs.Common.{◌≡◌, List, ℕ, Some, Ok, ap, true, false, refl, sym, ◌∙◌, rules, arith}
use Rattle.std.specs.Prelude.{codes}
use Rattle.std.specs.Str.{bytes_eq}
use Rattle.std.proofs.lemmas.Bool.Decides.{nat_tests}
use Rattle.std.proofs.lemmas.Result.{err_from_is_err_and}
use Rattle.plan_text.specs.Texts.{head}
use Rattle.plan_text.specs.Reading.{◌>>=◌, plan_of, planned, lines}
use Rattle.plan_text.proofs.TurnLaws.{head_turn, no_head, closed_empty, closed_after, fails_first}
use Rattle.plan_text.proofs.reading.plan_of.Goals as goal

pub returns-in_default : goal.returns-in_default
returns-in_default c = no_head c.args.codes.now c.args.bytes.now (sym c.in_default.ensures.parts)

pub returns-then-is_empty : goal.returns-then-is_empty
returns-then-is_empty c =
    let none : bytes_eq c.in-Some.first.now (codes "no plan") ≡ true = search rules in
    head_turn c.args.codes.now c.args.bytes.now c.in-Some.first.now c.in-Some.rest.now (sym c.in-Some.ensures.parts)
    ∙ rw (none, closed_empty c.in-Some.rest.now (grind (arith, nat_tests))) refl

pub returns-else-is_empty : goal.returns-else-is_empty
returns-else-is_empty c =
    let none : bytes_eq c.in-Some.first.now (codes "no plan") ≡ true = search rules in
    head_turn c.args.codes.now c.args.bytes.now c.in-Some.first.now c.in-Some.rest.now (sym c.in-Some.ensures.parts)
    ∙ rw (none, closed_after c.in-Some.rest.now (grind (arith, nat_tests))) refl

pub returns-then-ne : goal.returns-then-ne
returns-then-ne c =
    let some : bytes_eq c.in-Some.first.now (codes "no plan") ≡ false = search rules in
    let other : bytes_eq c.in-Some.first.now (head c.args.codes.now) ≡ false = search rules in
    head_turn c.args.codes.now c.args.bytes.now c.in-Some.first.now c.in-Some.rest.now (sym c.in-Some.ensures.parts) ∙ rw (some, other) refl

pub returns-in_err-plan : goal.returns-in_err-plan
returns-in_err-plan c =
    let some : bytes_eq c.in-Some.first.now (codes "no plan") ≡ false = search rules in
    let same : bytes_eq c.in-Some.first.now (head c.args.codes.now) ≡ true = search rules in
    let is : plan_of c.args.codes.now c.args.bytes.now ≡ (planned c.args.codes.now (lines c.in-Some.rest.now) >>= λ plan. Ok (Some plan)) =
    head_turn c.args.codes.now c.args.bytes.now c.in-Some.first.now c.in-Some.rest.now (sym c.in-Some.ensures.parts) ∙ rw (some, same) refl in
    let p = err_from_is_err_and c.from_residual.result c.from_residual.ensures.1 in
    rw (p.1, p.2) (rw is (fails_first c.in_err-plan.field-0.0 (planned c.args.codes.now (lines c.in-Some.rest.now)) (λ (plan : List ℕ). Ok (Some plan)) c.in_err-plan.ensures))

pub returns : goal.returns
returns c =
    let some : bytes_eq c.in-Some.first.now (codes "no plan") ≡ false = search rules in
    let same : bytes_eq c.in-Some.first.now (head c.args.codes.now) ≡ true = search rules in
    head_turn c.args.codes.now c.args.bytes.now c.in-Some.first.now c.in-Some.rest.now (sym c.in-Some.ensures.parts)
    ∙ rw (some, same) (ap (λ r. r >>= λ (plan : List ℕ). Ok (Some plan)) c.in_ok-plan.ensures)
