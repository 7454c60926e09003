use Rattle.std.proofs.Common.{◌≡◌, true, eqb, Some, None, refl, sym, ap, ◌∙◌, arith}
use Rattle.std.proofs.lemmas.Bool.Decides.{nat_tests}
use Rattle.std.proofs.lemmas.Result.{err_from_is_err_and}
use Rattle.plan_text.specs.Rows.{total_in}
use Rattle.plan_text.specs.Reading.{◌>>=◌, closed, lines}
use Rattle.plan_text.proofs.TurnLaws.{total_turn, total_missing, closed_empty, closed_after}
use Rattle.plan_text.proofs.reading.close.Goals as goal

pub returns-in_default : goal.returns-in_default
returns-in_default c = sym (total_missing c.args.number c.args.is c.args.bytes.now (sym c.in_default.ensures.parts))

pub returns-in_default-total_in : goal.returns-in_default-total_in
returns-in_default-total_in c =
    let none : total_in c.in-Some.line.now ≡ None = sym c.in_default-total_in.ensures in
    sym (total_turn c.args.number c.args.is c.args.bytes.now c.in-Some.line.now c.in-Some.rest.now (sym c.in-Some.ensures.parts) ∙ rw none refl)

pub returns-in_err-check_figure : goal.returns-in_err-check_figure
returns-in_err-check_figure c =
    let found : total_in c.in-Some.line.now ≡ Some c.in-Some-total_in.told = sym c.in-Some-total_in.ensures in
    let p = err_from_is_err_and c.from_residual.result c.from_residual.ensures.1 in
    rw (p.1, p.2) (sym (total_turn c.args.number c.args.is c.args.bytes.now c.in-Some.line.now c.in-Some.rest.now (sym c.in-Some.ensures.parts)
    ∙ rw found (ap (λ r. r >>= λ right. closed (lines c.in-Some.rest.now)) (sym c.in_err-check_figure.ensures))))

pub returns-then-not-is_empty : goal.returns-then-not-is_empty
returns-then-not-is_empty c =
    let found : total_in c.in-Some.line.now ≡ Some c.in-Some-total_in.told = sym c.in-Some-total_in.ensures in
    let same : eqb c.in-Some-total_in.told c.args.is ≡ true = grind (arith, nat_tests) in
    sym (total_turn c.args.number c.args.is c.args.bytes.now c.in-Some.line.now c.in-Some.rest.now (sym c.in-Some.ensures.parts)
    ∙ rw (found, same) (closed_after c.in-Some.rest.now (grind (arith, nat_tests))))

pub returns : goal.returns
returns c =
    let found : total_in c.in-Some.line.now ≡ Some c.in-Some-total_in.told = sym c.in-Some-total_in.ensures in
    let same : eqb c.in-Some-total_in.told c.args.is ≡ true = grind (arith, nat_tests) in
    sym (total_turn c.args.number c.args.is c.args.bytes.now c.in-Some.line.now c.in-Some.rest.now (sym c.in-Some.ensures.parts)
    ∙ rw (found, same) (closed_empty c.in-Some.rest.now (grind (arith, nat_tests))))
