use Rattle.std.proofs.Common.{◌≡◌, true, false, Some, None, sym, rules, arith}
use Rattle.std.specs.Prelude.{codes}
use Rattle.std.specs.Str.{bytes_eq}
use Rattle.std.proofs.lemmas.Bool.Decides.{nat_tests}
use Rattle.refutation_log.specs.Reading.{record_of}
use Rattle.refutation_log.proofs.LogLaws.{ends_whole, ends_early, reads_no_record, reads_record, runs_out}
use Rattle.refutation_log.proofs.reading.records_of.Goals as goal

pub returns-then-is_empty : goal.returns-then-is_empty
returns-then-is_empty c =
    let end : bytes_eq c.in-Some.line.now (codes "end") ≡ true = search rules in
    ends_whole c.loop-line.list.items c.loop-line.number c.loop-line.rest.now c.in-Some.line.now c.in-Some.more.now _ (sym c.in-Some.ensures.parts) c.loop-line.invariant.0 end (grind (arith, nat_tests))

pub returns-else-is_empty : goal.returns-else-is_empty
returns-else-is_empty c =
    let end : bytes_eq c.in-Some.line.now (codes "end") ≡ true = search rules in
    ends_early c.loop-line.list.items c.loop-line.number c.loop-line.rest.now c.in-Some.line.now c.in-Some.more.now _ (sym c.in-Some.ensures.parts) c.loop-line.invariant.0 end (grind (arith, nat_tests))

pub returns-in-Err-Form : goal.returns-in-Err-Form
returns-in-Err-Form c =
    let end : bytes_eq c.in-Some.line.now (codes "end") ≡ false = search rules in
    let none : record_of c.in-Some.line.now ≡ None = rw c.in-Err-Form.field-0-is at c.in-Err-Form.ensures in
    reads_no_record c.loop-line.list.items c.loop-line.number c.loop-line.rest.now c.in-Some.line.now c.in-Some.more.now _ (sym c.in-Some.ensures.parts) c.loop-line.invariant.0 end none

pub loop-line-preserved : goal.loop-line-preserved
loop-line-preserved c =
    let end : bytes_eq c.in-Some.line.now (codes "end") ≡ false = search rules in
    let found : record_of c.in-Some.line.now ≡ Some c.in-Ok.record = c.in-Ok.ensures in
    (rw c.in_ok-push-in-Ok.ensures.items (reads_record c.loop-line.list.items c.loop-line.number c.loop-line.rest.now c.in-Some.line.now c.in-Some.more.now _ (sym c.in-Some.ensures.parts) c.loop-line.invariant.0 c.in-Ok.record end found), omega (arith, c.in-Some.ensures.shorter))

pub returns : goal.returns
returns c = runs_out c.loop-line.list.items c.loop-line.number c.loop-line.rest.now _ (sym c.in_default.ensures.parts) c.loop-line.invariant.0
