-- A store of one box whose record is the first of a log.
use Rattle.std.proofs.Common.{◌≡◌, ◌<◌, List, [], ◌∷◌, refl, sym, ap, ◌∙◌, subst}
use Rattle.std.proofs.lemmas.List.Elements.{All-cons, All-nil}
use Rattle.plan_rule.specs.declared.literal.Literal.{Literal}
use Rattle.plan_rule.specs.Choices.{Choices, blocks, count}
use Rattle.plan_rule.specs.Boxes.{IsBox, exact}
use Rattle.plan_rule.proofs.EmptyLaws.{empty_box}
use Rattle.refutation_log.specs.declared.record.Record.{Record}
use Rattle.refutation_log.specs.declared.record.Record.TheVariants.{Fit}
use Rattle.nogood_store.specs.declared.nogood.Nogood.{Nogood}
use Rattle.branch_kernel.specs.Stored.{IsStored, IsTagged}
use Rattle.branch_kernel.proofs.CoverLaws.{covers_self}
use Rattle.branch_kernel.proofs.WithLaws.{with_box, exact_literal}

-- the fit of the first block's first code is the log's one record, and its box the store's one box
pub stored_one : (c : Choices) (log : List Record) (nogoods : List Nogood) (side part : List Literal) (l : Literal) → l ≡ exact 0 0 → side ≡ l ∷ [] → part ≡ l ∷ []
    → log ≡ Fit side ∷ [] → nogoods ≡ record { part = part; tag = 0 } ∷ [] → 0 < blocks c → 0 < count c 0 → IsStored c log nogoods
stored_one c log nogoods side part l e f g h i exists below =
    subst (IsStored c log) (sym (i ∙ ap (λ part. record { part = part; tag = 0 } ∷ []) (g ∙ ap (λ l. l ∷ []) e)))
    (All-cons (IsTagged c log) (record { part = exact 0 0 ∷ []; tag = 0 }) [] tagged (All-nil (IsTagged c log)))
  where
    is : IsBox c (exact 0 0 ∷ [])
    is = with_box c [] (exact 0 0) (empty_box c) (exact_literal c 0 0 exists below)

    tagged : IsTagged c log (record { part = exact 0 0 ∷ []; tag = 0 })
    tagged = subst (λ log. IsTagged c log (record { part = exact 0 0 ∷ []; tag = 0 })) (sym (h ∙ ap (λ side. Fit side ∷ []) (f ∙ ap (λ l. l ∷ []) e))) (record {
      record_is = Fit (exact 0 0 ∷ []);
      at = refl;
      contains = covers_self c (exact 0 0 ∷ []);
      result_is = is;
      part_is = is;
    })
