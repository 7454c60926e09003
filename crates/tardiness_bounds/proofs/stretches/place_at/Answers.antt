use Rattle.std.proofs.Common.{◌/◌, sym, subst}
use Rattle.std.specs.Prelude.{All}
use Rattle.code_table.specs.Placements.{placements}
use Rattle.code_table.specs.Stretches.{IsStretch}
use Rattle.tardiness_bounds.proofs.stretches.place_at.Goals as goal

pub place_in-requires-clause-stretch : goal.place_in-requires-clause-stretch
place_in-requires-clause-stretch c =
    subst (All (IsStretch (placements c.args.codes.now c.args.block))) (sym c.as_slice-list.ensures.value) c.requires.kept.each
    (c.args.code / c.args.kept.now.step) _ c.if-i-list.true
