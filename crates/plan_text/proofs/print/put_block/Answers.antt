use Rattle.std.proofs.Common.{◌≡◌, ◌<◌, ◌++◌, ◌∙◌, Some, sym, ap, subst, length}
use Rattle.std.specs.Prelude.{slice_get}
use Rattle.std.specs.String.{string_bytes}
use Rattle.std.proofs.lemmas.Result.{IfOk-equal}
use Rattle.code_table.specs.Placements.{placements}
use Rattle.plan_rule.specs.Plans.{code_of}
use Rattle.plan_text.specs.Texts.{tells_early, block_line}
use Rattle.plan_rule.proofs.CountLaws.{block_exists, plan_code}
use Rattle.plan_text.proofs.RowLaws.{read_at, row_is}
use Rattle.plan_text.proofs.print.put_block.Goals as goal

pub place-place-requires-clause-block : goal.place-place-requires-clause-block
place-place-requires-clause-block c = block_exists _ _ c.requires.block

pub place-place-requires-clause-code : goal.place-place-requires-clause-code
place-place-requires-clause-code c = plan_code c.args.codes.now c.args.plan.now _ c.args.block c.requires.plan c.codes.ensures c.requires.block

pub bounds-blocks-block : goal.bounds-blocks-block
bounds-blocks-block c =
    subst (λ bs. c.args.block < length bs) (sym (c.blocks-2.ensures.value ∙ ap (λ y. y.blocks) c.yard-yard.ensures.value)) (block_exists c.args.codes.now _ c.requires.block)

pub bounds-plates-place : goal.bounds-plates-place
bounds-plates-place c =
    subst (λ ps. c.place-place.result.plate < length ps) (sym (c.plates.ensures.value ∙ ap (λ y. y.plates) c.yard-yard.ensures.value))
    c.place-place.ensures.plate

pub returns : goal.returns
returns c =
    let block : slice_get c.args.codes.now.blocks c.args.block ≡ Some c.index-blocks-block.result =
    read_at c.blocks-2.result.now c.args.codes.now.blocks c.args.block c.index-blocks-block.result
    (c.blocks-2.ensures.value ∙ ap (λ y. y.blocks) c.yard-yard.ensures.value) (subst (λ bs. c.args.block < length bs) (sym (c.blocks-2.ensures.value ∙ ap (λ y. y.blocks) c.yard-yard.ensures.value)) (block_exists c.args.codes.now _ c.requires.block)) c.index-blocks-block.is in
    let plate : slice_get c.args.codes.now.plates c.place-place.result.plate ≡ Some c.index-plates-place.result =
    read_at c.plates.result.now c.args.codes.now.plates c.place-place.result.plate c.index-plates-place.result
    (c.plates.ensures.value ∙ ap (λ y. y.plates) c.yard-yard.ensures.value) (subst (λ ps. c.place-place.result.plate < length ps) (sym (c.plates.ensures.value ∙ ap (λ y. y.plates) c.yard-yard.ensures.value)) c.place-place.ensures.plate) c.index-plates-place.is in
    let place : slice_get (placements c.args.codes.now c.args.block) (code_of c.args.plan.now c.args.block) ≡ Some c.place-place.result =
    subst (λ list. slice_get (placements c.args.codes.now c.args.block) (code_of list c.args.block) ≡ Some c.place-place.result) c.codes.ensures
    c.place-place.ensures.value in
    let kind : c.tells_early.result ≡ tells_early c.args.codes.now = c.tells_early.ensures ∙ ap tells_early c.yard-yard.ensures.value in
    IfOk-equal c.put_row.result _ _ _ c.put_row.ensures
    (ap (λ t. string_bytes c.args.out.now ++ t)
    (ap (λ told. block_line told c.index-blocks-block.result.name c.index-blocks-block.result.due c.index-plates-place.result.name c.place-place.result) kind ∙ row_is c.args.codes.now c.args.plan.now c.args.block c.index-blocks-block.result c.place-place.result c.index-plates-place.result block place plate))
