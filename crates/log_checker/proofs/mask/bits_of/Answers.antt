use Rattle.std.proofs.Common.{◌+◌, ◌-◌, sym, ◌∙◌, subst, arith}
use Rattle.std.proofs.lemmas.Bool.{false≢true}
use Rattle.std.proofs.lemmas.Nat.Bits.{bit_at-zero}
use Rattle.code_table.specs.declared.placement.Placement.{Placement}
use Rattle.log_checker.specs.Offsets.{AreSoApart, offset_of}
use Rattle.log_checker.proofs.MaskLaws.{TellFirst, first_apart, first_met}
use Rattle.log_checker.proofs.OffsetLaws.{offset_within}
use Rattle.log_checker.proofs.mask.bits_of.Goals as goal
use Rattle.log_checker.proofs.mask.bits_of.Goals.{then-not-are_apart, else-not-are_apart}

pub loop-code-init : goal.loop-code-init
loop-code-init c = record {
  low = omega arith;
  first = record { told = λ i below. absurd (omega arith); rest = λ i past. bit_at-zero i };
}

pub are_apart-requires : goal.are_apart-requires
are_apart-requires c =
    offset_within c.args.codes.now c.args.one c.args.block c.place_in-place.result c.offset_of.result c.requires.one c.requires.block
    c.place_in-place.ensures.turn c.place_in-place.ensures.x c.place_in-place.ensures.y c.offset_of.ensures

pub loop-code-preserved : goal.loop-code-preserved
loop-code-preserved c =
    let low = c.loop-code.invariant.low in
    let below = c.loop-code-test.true in
    let few = c.requires.few in
    let is = c.offset_of.ensures in
    let place = c.place_in-place.ensures.place in
    elim c.if-not-are_apart.branch [
      | then-not-are_apart w ↦ record {
        low = omega arith;
        first = first_met c.args.codes.now c.args.one c.args.block c.args.stretch c.args.lo (c.loop-code.code - c.args.lo)
            (c.loop-code.code + 1 - c.args.lo) c.loop-code.code c.loop-code.bits _ c.loop-code.invariant.first (omega arith) (omega arith) (omega arith)
            w.bits-is
            (λ h. false≢true (sym w.if-not-are_apart.true ∙ c.are_apart.ensures.1
            (subst (AreSoApart c.args.codes.now) (sym is) (subst (λ (p : Placement). AreSoApart c.args.codes.now (offset_of c.args.one c.args.block p)) (sym place) h))));
      }
      | else-not-are_apart w ↦ record {
        low = omega arith;
        first = subst (λ x. TellFirst c.args.codes.now c.args.one c.args.block c.args.stretch c.args.lo (c.loop-code.code + 1 - c.args.lo) x) (sym w.bits-is)
            (first_apart c.args.codes.now c.args.one c.args.block c.args.stretch c.args.lo (c.loop-code.code - c.args.lo)
            (c.loop-code.code + 1 - c.args.lo) c.loop-code.code c.loop-code.bits c.loop-code.invariant.first (omega arith) (omega arith)
            (subst (λ (p : Placement). AreSoApart c.args.codes.now (offset_of c.args.one c.args.block p)) place
            (subst (AreSoApart c.args.codes.now) is (c.are_apart.ensures.0 w.if-not-are_apart.false))));
      }
    ]

pub returns : goal.returns
returns c =
    let past = c.loop-code-test.false in
    let low = c.loop-code.invariant.low in λ i below. c.loop-code.invariant.first.told i (omega arith)
