use Rattle.std.proofs.Common.{sym, subst}
use Rattle.std.specs.Prelude.{All}
use Rattle.std.proofs.lemmas.List.Elements.{All-push}
use Rattle.code_table.specs.Placements.{placements}
use Rattle.code_table.specs.Stretches.{IsStretch}
use Rattle.tardiness_bounds.proofs.stretches.stretches_of.Goals as goal

pub loop-code-preserved : goal.loop-code-preserved
loop-code-preserved c =
    subst (All (IsStretch (placements c.args.codes.now c.args.block))) (sym c.in_ok-push.ensures.items)
    (All-push (IsStretch (placements c.args.codes.now c.args.block)) c.loop-code.list.items c.stretch.result c.loop-code.invariant c.stretch.ensures.stretch)
