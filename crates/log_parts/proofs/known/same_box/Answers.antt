use Rattle.std.proofs.Common.{◌∙◌, sym}
use Rattle.std.specs.Option.{option_eq}
use Rattle.std.proofs.lemmas.Slice.Eq.{slice_eq-Decides}
use Rattle.log_parts.proofs.SameLaws.{literals_decide, same_options, same_parts}
use Rattle.log_parts.proofs.known.same_box.Goals as goal

pub returns-then-eq : goal.returns-then-eq
returns-then-eq c = λ t. same_parts c.args.one.now c.args.other.now
    (sym c.range_of.ensures ∙ same_options _ literals_decide c.range_of.result c.range_of-2.result (sym c.eq.ensures ∙ c.if-eq.true) ∙ c.range_of-2.ensures)
    (sym c.side_of.ensures ∙ sym c.literals.ensures.value ∙ (slice_eq-Decides literals_decide _ _ _ c.eq-then-eq.ensures).0 t ∙ c.literals-then-eq.ensures.value ∙ c.side_of-then-eq.ensures)
