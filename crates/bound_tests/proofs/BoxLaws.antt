-- Boxes with one literal more.
use Rattle.std.proofs.Common.{◌≡◌, ℕ, ◌+◌, ◌<◌, ◌≤◌, List, [], ◌∷◌, ◌++◌, sym, ap, subst, inl, inr, arith}
use Rattle.std.specs.Prelude.{All}
use Rattle.std.proofs.lemmas.List.Elements.{All-push}
use Rattle.std.proofs.lemmas.Option.{get_or_from_slice_get, slice_get_within}
use Rattle.common_lists.proofs.EachLaws.{get-append_cases}
use Rattle.common_lists.proofs.ListLaws.{only_element}
use Rattle.plan_rule.specs.declared.literal.Literal.{Literal}
use Rattle.plan_rule.specs.Boxes.{AreLiterals, IsAscending}

-- the blocks of the literals come before a number
abbrev pub ComeBefore : ℕ → List Literal → Type 0
ComeBefore n box = All (λ l. l.block < n) box

-- a literal on a later block
pub literals_more : (box more : List Literal) (l : Literal) (n : ℕ) → AreLiterals box → ComeBefore n box → n ≤ l.block → l.lo < l.hi → more ≡ box ++ l ∷ []
    → AreLiterals more
literals_more box more l n h low after some pushed = subst AreLiterals (sym pushed) (record {
  ascending = up box l n h low after;
  some = All-push (λ m. m.lo < m.hi) box l h.some some;
})
  where
    up : (box : List Literal) (l : Literal) (n : ℕ) → AreLiterals box → ComeBefore n box → n ≤ l.block → IsAscending (box ++ l ∷ [])
    up box l n h low after i j a b less at_a at_b = elim (get-append_cases box (l ∷ []) j b at_b) [
      | inl front_b ↦ elim (get-append_cases box (l ∷ []) i a at_a) [
        | inl front_a ↦ h.ascending i j a b less front_a front_b
        | inr back ↦ (let (m, here, where_is) = back in let k = slice_get_within box j b front_b in absurd (omega arith))
      ]
      | inr back_b ↦
          let (m, here, where_is) = back_b in
          let (first, same) = only_element l b m here in
          elim (get-append_cases box (l ∷ []) i a at_a) [
            | inl front_a ↦
                let k = slice_get_within box i a front_a in
                let e = ap (λ (l : Literal). l.block) (get_or_from_slice_get box i a a front_a) in
                let f = ap (λ (l : Literal). l.block) same in
                let before = low i a k in
                omega arith
            | inr back_a ↦ (let (p, there, where_a) = back_a in let (zero_p, same_a) = only_element l a p there in absurd (omega arith))
          ]
    ]

pub before_more : (box more : List Literal) (l : Literal) (n : ℕ) → ComeBefore n box → n ≤ l.block → more ≡ box ++ l ∷ [] → ComeBefore (l.block + 1) more
before_more box more l n low after pushed =
    subst (ComeBefore (l.block + 1)) (sym pushed)
    (All-push (λ m. m.block < l.block + 1) box l (λ k d within. let before = low k d within in omega arith) (omega arith))
