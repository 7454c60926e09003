-- When two records have one box.
use Rattle.std.proofs.Common.{◌≡◌, ℕ, List, Option, Some, None, Bool, true, false, refl, sym, ap, ◌∙◌, subst}
use Rattle.std.specs.Prelude.{◌==◌, ◌&&◌, if◌then◌else◌, nat_eq}
use Rattle.std.specs.Bool.{Decides}
use Rattle.std.specs.Option.{option_eq}
use Rattle.std.proofs.lemmas.Bool.{eqb-true, eq-eqb, true≢false}
use Rattle.plan_rule.specs.Boxes.{with_literal}
use Rattle.plan_rule.specs.Choices.{Choices, count}
use Rattle.plan_rule.specs.Yards.{choices}
use Rattle.plan_rule.specs.declared.literal.Literal.{Literal}
use Rattle.refutation_log.specs.declared.record.Record.{Record}
use Rattle.refutation_log.specs.declared.record.Record.TheVariants.{Branch, Fit, Energy}
use Rattle.refutation_log.specs.Steps.{result_of}
use Rattle.log_parts.specs.United.{IsSameBox, range_of, side_of}

-- the box of a range, if any, beside a side
abbrev box_of : Choices → Option Literal → List Literal → List Literal
box_of c (Some l) side = if (l.lo == 0) && (l.hi == count c l.block) then side else with_literal side l
box_of c None side = side

result_is : (c : Choices) (r : Record) → result_of c r ≡ box_of c (range_of r) (side_of r)
result_is c (Branch b lo hi side cites) = refl
result_is c (Fit side) = refl
result_is c (Energy from to side) = refl

pub same_parts : (r e : Record) → range_of r ≡ range_of e → side_of r ≡ side_of e → IsSameBox r e
same_parts r e ranges sides = λ yard.
    result_is (choices yard) e ∙ ap (λ o. box_of (choices yard) o (side_of e)) (sym ranges) ∙ ap (box_of (choices yard) (range_of r)) (sym sides) ∙ sym (result_is (choices yard) r)

pub same_options : {X : Type 0} (E : X → X → Bool) → ((x y : X) → Decides (E x y) (x ≡ y)) → (a b : Option X) → option_eq E a b ≡ true → a ≡ b
same_options E decides None None h = refl
same_options E decides None (Some y) h = absurd (true≢false (sym h))
same_options E decides (Some x) None h = absurd (true≢false (sym h))
same_options E decides (Some x) (Some y) h = ap (λ z. Some z) ((decides x y).0 h)

both : (s t : Bool) → (s && t) ≡ true → (s ≡ true) × (t ≡ true)
both true t h = (refl, h)
both false t h = absurd (true≢false (sym h))

and_true : (s t : Bool) → s ≡ true → t ≡ true → (s && t) ≡ true
and_true s t a b = ap (λ x. x && t) a ∙ b

pub literals_decide : (x y : Literal) → Decides (nat_eq x.block y.block && (nat_eq x.lo y.lo && nat_eq x.hi y.hi)) (x ≡ y)
literals_decide x y = (
  λ h.
      let (b, rest) = both (nat_eq x.block y.block) (nat_eq x.lo y.lo && nat_eq x.hi y.hi) h in
      let (l, m) = both (nat_eq x.lo y.lo) (nat_eq x.hi y.hi) rest in
      ap (λ (n : ℕ). record { block = n; lo = x.lo; hi = x.hi }) (eqb-true x.block y.block b)
      ∙ ap (λ (n : ℕ). record { block = y.block; lo = n; hi = x.hi }) (eqb-true x.lo y.lo l)
      ∙ ap (λ (n : ℕ). record { block = y.block; lo = y.lo; hi = n }) (eqb-true x.hi y.hi m),
  λ e. and_true (nat_eq x.block y.block) (nat_eq x.lo y.lo && nat_eq x.hi y.hi) (eq-eqb x.block y.block (ap (λ (l : Literal). l.block) e))
      (and_true (nat_eq x.lo y.lo) (nat_eq x.hi y.hi) (eq-eqb x.lo y.lo (ap (λ (l : Literal). l.lo) e)) (eq-eqb x.hi y.hi (ap (λ (l : Literal). l.hi) e))),
)
