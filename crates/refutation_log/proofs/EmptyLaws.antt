-- Which records refute every plan.
use Rattle.std.proofs.Common.{◌≡◌, ℕ, ◌==◌, List, [], ◌∷◌, ◌++◌, length, Bool, true, false, refl, sym, ap, ap₂, ◌∙◌, subst, arith}
use Rattle.std.specs.Prelude.{◌&&◌, if◌then◌else◌, ◌↔◌}
use Rattle.std.proofs.lemmas.Bool.{eq-eqb, eqb-true}
use Rattle.common_lists.proofs.ListLaws.{both_true}
use Rattle.plan_rule.specs.Boxes.{with_literal}
use Rattle.plan_rule.specs.Choices.{Choices, count}
use Rattle.plan_rule.specs.declared.literal.Literal.{Literal}
use Rattle.refutation_log.specs.declared.record.Record.{Record}
use Rattle.refutation_log.specs.declared.record.Record.TheVariants.{Branch}
use Rattle.refutation_log.specs.Steps.{result_of}

-- when the result of a branch is the empty box
pub branch_empty : (c : Choices) (b lo hi : ℕ) (side : List Literal) (cites : List ℕ) → (side ≡ []) × (lo ≡ 0) × (hi ≡ count c b) → result_of c (Branch b lo hi side cites) ≡ []
branch_empty c b lo hi side cites (none, low, high) =
    ap (λ (w : Bool). if w then side else with_literal side (record { block = b; lo = lo; hi = hi })) (ap₂ ◌&&◌ (eq-eqb lo 0 low) (eq-eqb hi (count c b) high)) ∙ none

empty_branch : (c : Choices) (b lo hi : ℕ) (side : List Literal) (cites : List ℕ) → result_of c (Branch b lo hi side cites) ≡ [] → (side ≡ []) × (lo ≡ 0) × (hi ≡ count c b)
empty_branch c b lo hi side cites e = choose ((lo == 0) && (hi == count c b)) refl
  where
    some : (xs ys : List Literal) (l : Literal) → xs ++ l ∷ ys ≡ [] → ⊥
    some [] ys l e = let n = ap length e in absurd (omega arith)
    some (x ∷ xs) ys l e = let n = ap length e in absurd (omega arith)

    choose : (w : Bool) → ((lo == 0) && (hi == count c b)) ≡ w → (side ≡ []) × (lo ≡ 0) × (hi ≡ count c b)
    choose true is =
        let (x, y) = both_true (lo == 0) (hi == count c b) is in
        (sym (ap (λ (w : Bool). if w then side else with_literal side (record { block = b; lo = lo; hi = hi })) is) ∙ e, eqb-true lo 0 x, eqb-true hi (count c b) y)
    choose false is =
        absurd (some _ _ _ (sym (ap (λ (w : Bool). if w then side else with_literal side (record { block = b; lo = lo; hi = hi })) is) ∙ e))

pub record_empty : (c : Choices) (r : Record) (b lo hi : ℕ) (side : List Literal) (cites : List ℕ) (answer : Bool) → r ≡ Branch b lo hi side cites
    → (answer ≡ true ↔ ((side ≡ []) × (lo ≡ 0) × (hi ≡ count c b))) → (answer ≡ true ↔ (result_of c r ≡ []))
record_empty c r b lo hi side cites answer is (to, from) = subst (λ r. answer ≡ true ↔ (result_of c r ≡ [])) (sym is)
    (λ t. branch_empty c b lo hi side cites (to t), λ e. from (empty_branch c b lo hi side cites e))
