use Rattle.std.proofs.Common.{◌≡◌, sym, subst}
use Rattle.std.specs.Prelude.{All}
use Rattle.std.proofs.lemmas.Bool.{false≢true}
use Rattle.std.proofs.lemmas.List.Elements.{All-get_or}
use Rattle.shape_exact.specs.Yards.{StandApart}
use Rattle.shape_exact.proofs.yard.Yard.can_add_fixed.Goals as goal

pub returns-then-not-stand_apart : goal.returns-then-not-stand_apart
returns-then-not-stand_apart c = (
  λ h. absurd (false≢true h),
  λ can. c.if-not-stand_apart.ensures.1
      (subst (λ g. StandApart g c.args.piece.now) (sym c.other-item.is)
      (All-get_or (λ g. StandApart g c.args.piece.now) c.fixed-pieces.result.now c.loop-other.other-index c.other-item.result c.loop-other-test.true
      (subst (All (λ g. StandApart g c.args.piece.now)) (sym c.fixed-pieces.ensures.value) can.apart))),
)
