-- The steps of a search by depth: children, leaves, and a better answer.
use Rattle.std.proofs.Common.{◌≡◌, ℕ, ◌<◌, List, [], ◌∷◌, ◌++◌, length, Option, Some, None, sym, ap, ◌∙◌, subst, inl, inr, arith, length-append}
use Rattle.std.proofs.lemmas.Bool.{cases_lt}
use Rattle.std.proofs.lemmas.List.{get_or_append_left, get_or_push, same_lists, get_or_default}
use Rattle.plan_rule.specs.Choices.{Choices, blocks, count}
use Rattle.plan_rule.specs.Plans.{code_of, IsPlan, IsBefore, IsBest, IsAnswer, Extends, IsLeastOn, Improves}
use Rattle.plan_rule.proofs.OrderLaws.{before_trans}

-- a plan extends a front with its own next code
pub child : (front q : List ℕ) → Extends front q → Extends (front ++ code_of q (length front) ∷ []) q
child front q h b l = elim (cases_lt b (length front)) [
  | inl below ↦ get_or_append_left front (code_of q (length front) ∷ []) 0 b below ∙ h b below
  | inr last ↦
      let n = length-append front (code_of q (length front) ∷ []) in
      let e : b ≡ length front = omega arith in
      get_or_push front (code_of q (length front)) 0 b (sym e) ∙ ap (code_of q) (sym e)
]

-- what is least on each child is least on the front
pub children_cover : (c : Choices) (front : List ℕ) (t : Option (List ℕ)) → length front < blocks c
    → ((code : ℕ) → code < count c (length front) → IsLeastOn c (front ++ code ∷ []) t) → IsLeastOn c front t
children_cover c front t l each q f h = each (code_of q (length front)) (f.is_plan.in_range (length front) l) q f (child front q h)

-- a plan that extends a whole plan is that plan
pub leaf : (c : Choices) (front q : List ℕ) → length front ≡ blocks c → IsPlan c q → Extends front q → q ≡ front
leaf c front q e p h = same_lists q front (p.one_each ∙ sym e)
    (λ k d l.
    let m : k < length front = let n = p.one_each in omega arith in
    get_or_default q k d 0 l ∙ sym (h k m) ∙ get_or_default front k 0 d m)

-- a whole plan that is no better than the answer
pub leaf_keeps : (c : Choices) (front r : List ℕ) → length front ≡ blocks c → (IsBefore c front r → ⊥) → IsLeastOn c front (Some r)
leaf_keeps c front r e not_better q f h = subst (λ q. IsBefore c q r → ⊥) (sym (leaf c front q e f.is_plan h)) not_better

-- no plan is before itself
pub before_self : (c : Choices) (p : List ℕ) → IsBefore c p p → ⊥
before_self c p (inl l) = absurd (omega arith)
before_self c p (inr (e, l)) = let m = l.less in absurd (omega arith)

-- a whole plan that is the new answer
pub leaf_takes : (c : Choices) (front : List ℕ) → length front ≡ blocks c → IsLeastOn c front (Some front)
leaf_takes c front e = leaf_keeps c front front e (before_self c front)

pub improves_first : (c : Choices) (p : List ℕ) → Improves c None (Some p)
improves_first c p q h = absurd h

pub improves_takes : (c : Choices) (r p : List ℕ) → IsBefore c p r → Improves c (Some r) (Some p)
improves_takes c r p better q not_before before = not_before (before_trans c q p r before better)

-- an answer that is least on no front at all is the best
pub least_is_best : (c : Choices) (t : Option (List ℕ)) → IsAnswer c t → IsLeastOn c [] t → IsBest c t
least_is_best c None a h = λ q f. h q f (λ b l. absurd (omega arith))
least_is_best c (Some p) a h = (a, λ q f. h q f (λ b l. absurd (omega arith)))
