use Rattle.std.proofs.Common.{◌≡◌, List, Ok, ap, true, false, sym, ◌∙◌, refl, rules}
use Rattle.std.specs.Prelude.{codes}
use Rattle.std.specs.Str.{bytes_eq}
use Rattle.std.proofs.lemmas.Result.{err_from_is_err_and}
use Rattle.refutation_log.specs.declared.record.Record.{Record}
use Rattle.refutation_log.specs.Reading.{log_of, records_from, lines}
use Rattle.refutation_log.proofs.LogLaws.{head_turn, no_head}
use Rattle.refutation_log.proofs.reading.log_of.Goals as goal

pub returns-in_default : goal.returns-in_default
returns-in_default c = no_head c.args.bytes.now (sym c.in_default.ensures.parts)

pub returns-then-ne : goal.returns-then-ne
returns-then-ne c =
    let other : bytes_eq c.in-Some.first.now (codes "log 1") ≡ false = search rules in
    head_turn c.args.bytes.now c.in-Some.first.now c.in-Some.rest.now (sym c.in-Some.ensures.parts) ∙ rw other refl

pub returns-in_err-list : goal.returns-in_err-list
returns-in_err-list c =
    let same : bytes_eq c.in-Some.first.now (codes "log 1") ≡ true = search rules in
    let is : log_of c.args.bytes.now ≡ records_from 2 (lines c.in-Some.rest.now) = head_turn c.args.bytes.now c.in-Some.first.now c.in-Some.rest.now (sym c.in-Some.ensures.parts) ∙ rw same refl in
    let p = err_from_is_err_and c.from_residual.result c.from_residual.ensures.1 in
    rw (p.1, p.2) (rw is c.in_err-list.ensures)

pub returns : goal.returns
returns c =
    let same : bytes_eq c.in-Some.first.now (codes "log 1") ≡ true = search rules in
    head_turn c.args.bytes.now c.in-Some.first.now c.in-Some.rest.now (sym c.in-Some.ensures.parts) ∙ rw same (c.in_ok-list.ensures ∙ ap (λ (rs : List Record). Ok rs) (sym c.in_ok-from_list.ensures))
