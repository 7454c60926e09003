use Rattle.std.proofs.Common.{◌≡◌, Some, None, sym, subst, ◌∙◌}
use Rattle.std.proofs.lemmas.Bool.{false≢true}
use Rattle.std.proofs.lemmas.Option.{slice_get_within}
use Rattle.common_lists.proofs.ListLaws.{element_at}
use Rattle.code_table.specs.Codes.{IsCode}
use Rattle.code_table.proofs.ReadLaws.{block_limits}
use Rattle.code_table.proofs.StandLaws.{placements-of}
use Rattle.plan_text.specs.Rows.{entry}
use Rattle.plan_text.specs.Told.{end_on}
use Rattle.plan_text.proofs.ToldLaws.{too_large, end_by, told_code, told_placement}
use Rattle.plan_text.proofs.told.told_at.Goals as goal

pub returns-then-not-fits_fields : goal.returns-then-not-fits_fields
returns-then-not-fits_fields c =
    sym (too_large c.args.codes.now c.args.of.now c.args.plate (entry c.args.row.now) c.requires.limits (λ has.
    false≢true (sym c.if-not-fits_fields.true ∙ c.fits_fields.ensures.1 has)))

pub end-requires : goal.end-requires
end-requires c = (block_limits c.args.codes.now c.args.block c.args.of.now c.requires.limits c.requires.of).duration.0

pub code-requires : goal.code-requires
code-requires c = slice_get_within c.args.codes.now.blocks c.args.block c.args.of.now c.requires.of

pub returns-in_err-code : goal.returns-in_err-code
returns-in_err-code c =
    let (plate, at) = element_at c.args.codes.now.plates c.args.plate c.requires.plate in
    let row = entry c.args.row.now in
    let ends : end_on c.args.codes.now c.args.of.now c.args.plate c.args.row.now.start ≡ Some c.in_ok-end.end =
    end_by c.args.codes.now c.args.of.now c.args.plate c.args.row.now.start plate c.calendar.result.now (Some c.in_ok-end.end) at (c.calendar.ensures plate at) c.in_ok-end.ensures in
    let none = subst (λ ps. IsCode ps (told_placement c.args.plate c.in_ok-end.end row) None) (placements-of c.args.codes.now c.args.block c.args.of.now c.requires.of) c.in_err-code.ensures.value in
    rw c.from_residual-in_err-code.ensures (sym (told_code c.args.codes.now c.args.of.now c.args.plate row c.in_ok-end.end None ends none))

pub returns : goal.returns
returns c =
    let (plate, at) = element_at c.args.codes.now.plates c.args.plate c.requires.plate in
    let row = entry c.args.row.now in
    let ends : end_on c.args.codes.now c.args.of.now c.args.plate c.args.row.now.start ≡ Some c.in_ok-end.end =
    end_by c.args.codes.now c.args.of.now c.args.plate c.args.row.now.start plate c.calendar.result.now (Some c.in_ok-end.end) at (c.calendar.ensures plate at) c.in_ok-end.ensures in
    let is = subst (λ ps. IsCode ps (told_placement c.args.plate c.in_ok-end.end row) (Some c.in_ok-code.code)) (placements-of c.args.codes.now c.args.block c.args.of.now c.requires.of) c.in_ok-code.ensures.value in
    sym (told_code c.args.codes.now c.args.of.now c.args.plate row c.in_ok-end.end (Some c.in_ok-code.code) ends is)
