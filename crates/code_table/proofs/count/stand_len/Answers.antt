use Rattle.std.proofs.Common.{length, ap, sym, ◌∙◌, arith, refl, ◌*◌}
use Rattle.std.proofs.lemmas.Option.{same_Some}
use Rattle.code_table.proofs.ReadLaws.{read_at, stand_of, len_turnless, len_allowed, plate_limits}
use Rattle.code_table.specs.Grids.{rows}
use Rattle.code_table.proofs.count.stand_len.Goals as goal

pub returns-in_default-clause-value : goal.returns-in_default-clause-value
returns-in_default-clause-value c =
    sym (ap length (stand_of c.args.yard.now c.args.block.now c.args.k _ _ _ c.nth_stand-at.ensures.start c.nth_stand-at.ensures.plate c.nth_stand-at.ensures.turn
    ∙ c.in_default.ensures.none c.nth_stand-at.result.turn))

pub returns-then-not-block-at-clause-value : goal.returns-then-not-block-at-clause-value
returns-then-not-block-at-clause-value c =
    len_turnless c.args.yard.now c.args.block.now c.args.k _ _ _ c.in-Some.field-0 c.nth_stand-at.ensures.start c.nth_stand-at.ensures.plate
    c.nth_stand-at.ensures.turn c.in-Some.ensures.some c.if-not-block-at.true

pub returns-clause-value : goal.returns-clause-value
returns-clause-value c =
    let at = read_at c.args.yard.now.plates _ c.nth_stand-at.result.plate c.index-plates-at.result c.plates-plates.ensures.value
    c.nth_stand-at.ensures.plate_within c.index-plates-at.is in
    let turned_is = read_at c.args.shapes.now c.args.shapes.now c.nth_stand-at.result.turn c.index-shapes-at.result refl (omega arith) c.index-shapes-at.is in
    ap (λ r. r * c.columns.result) c.rows.ensures.value ∙ ap (λ n. rows c.index-plates-at.result c.index-shapes-at.result * n) c.columns.ensures.value ∙
    len_allowed c.args.yard.now c.args.block.now c.args.k _ _ _ c.in-Some.field-0 c.index-plates-at.result c.index-shapes-at.result
    c.nth_stand-at.ensures.start c.nth_stand-at.ensures.plate c.nth_stand-at.ensures.turn c.in-Some.ensures.some c.if-not-block-at.false at
    (same_Some _ _ (sym turned_is ∙ c.requires.shapes c.nth_stand-at.result.turn c.nth_stand-at.ensures.turn_within))
    (plate_limits c.args.yard.now c.nth_stand-at.result.plate c.index-plates-at.result c.plates-plates.ensures.limits at).pitch.0
