use Rattle.std.proofs.Common.{◌≡◌, ◌<◌, List, length, Some, refl, sym, ap, ◌∙◌, subst}
use Rattle.std.specs.Prelude.{slice_get}
use Rattle.std.proofs.lemmas.Option.{slice_get_read}
use Rattle.shape_exact.specs.Yards.{PlainYard}
use Rattle.shape_exact.specs.declared.block.Block.{Block}
use Rattle.code_table.proofs.ReadLaws.{block_limits}
use Rattle.log_checker.proofs.block.block_at.Goals as goal

-- the blocks that were read are the yard's
read : (yard y : PlainYard) (list : List Block) → list ≡ y.blocks → y ≡ yard → list ≡ yard.blocks
read yard y list e f = e ∙ ap (λ (y : PlainYard). y.blocks) f

pub returns-clause-value : goal.returns-clause-value
returns-clause-value c =
    subst (λ (xs : List Block). slice_get xs c.args.block ≡ Some c.index-blocks-block.result)
    (read _ _ _ c.blocks-blocks.ensures.value c.yard.ensures.value)
    (slice_get_read c.blocks-blocks.result.now _ c.args.block c.index-blocks-block.result refl
    (subst (λ (xs : List Block). c.args.block < length xs) (sym (read _ _ _ c.blocks-blocks.ensures.value c.yard.ensures.value)) c.requires)
    c.index-blocks-block.is)

pub returns-clause-limits : goal.returns-clause-limits
returns-clause-limits c = block_limits c.args.codes.now c.args.block c.index-blocks-block.result c.yard.ensures.limits (returns-clause-value c)
