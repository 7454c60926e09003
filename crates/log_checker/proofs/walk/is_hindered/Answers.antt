use Rattle.std.proofs.Common.{sym, ◌∙◌, subst, inl, inr, arith, length}
use Rattle.std.proofs.lemmas.Bool.{eqb-true, false≢true}
use Rattle.log_checker.specs.NearPieces.{AreNear}
use Rattle.log_checker.proofs.MaskLaws.{none_met, part_clashes}
use Rattle.log_checker.proofs.NearPieceLaws.{met_near, near_exist}
use Rattle.log_checker.proofs.walk.is_hindered.Goals as goal

pub returns-then-is_empty : goal.returns-then-is_empty
returns-then-is_empty c =
    let from = c.requires.part.from in
    let to = c.requires.part.to in
    let low = c.requires.from in
    let below = c.requires.to in
    let clashes = part_clashes c.args.codes.now c.args.exacts.now c.args.block c.args.code c.args.stretch c.args.part c.requires.stretch c.requires.part low below in (
      λ t. absurd (false≢true t),
      λ h. elim h [
        | inl clash ↦ absurd (false≢true (sym c.if-has.false ∙ c.has.ensures.1 (clashes.1 clash)))
        | inr met ↦
            absurd (none_met c.args.codes.now c.args.block c.args.code c.args.stretch c.args.pieces.now c.requires.stretch c.requires.pieces
            (eqb-true (length c.args.pieces.now) 0 (sym c.is_empty.ensures ∙ c.if-is_empty.true)) (omega arith) (omega arith) met)
      ],
    )

pub meets_one-requires-clause-pieces : goal.meets_one-requires-clause-pieces
meets_one-requires-clause-pieces c = near_exist c.args.codes.now c.args.stretch.place c.args.pieces.now c.requires.pieces

pub returns : goal.returns
returns c =
    let low = c.requires.from in
    let below = c.requires.to in
    let clashes = part_clashes c.args.codes.now c.args.exacts.now c.args.block c.args.code c.args.stretch c.args.part c.requires.stretch c.requires.part low below in
    let near : AreNear c.args.codes.now c.place_in-place.result c.args.pieces.now =
    subst (λ p. AreNear c.args.codes.now p c.args.pieces.now) (sym c.place_in-place.ensures.place) c.requires.pieces in
    let met = met_near c.args.codes.now c.args.block c.args.code c.place_in-place.result c.args.pieces.now c.place_in-place.ensures.value near in (
      λ t. inr (met.0 (c.meets_one.ensures.0 t)),
      λ h. elim h [
        | inl clash ↦ absurd (false≢true (sym c.if-has.false ∙ c.has.ensures.1 (clashes.1 clash)))
        | inr m ↦ c.meets_one.ensures.1 (met.1 m)
      ],
    )
