-- The order of plans is total and transitive.
use Rattle.std.proofs.Common.{◌≡◌, ℕ, zero, suc, ◌<◌, List, [], ◌∷◌, length, ◌⊎◌, refl, sym, ◌∙◌, subst, inl, inr, arith, Some}
use Rattle.std.proofs.lemmas.Bool.{cases_order}
use Rattle.plan_rule.specs.Choices.{Choices}
use Rattle.plan_rule.specs.Plans.{code_of, IsPlan, total, IsLexLess, IsBefore, IsBest}

pub lex_same : (c d : ℕ) (p q : List ℕ) (place : ℕ) → c ≡ d → ((b : ℕ) → b < place → code_of p b ≡ code_of q b)
    → (b : ℕ) → b < suc place → code_of (c ∷ p) b ≡ code_of (d ∷ q) b
lex_same c d p q place e same zero l = e
lex_same c d p q place e same (suc b) l = same b (omega arith)

-- one element more at the front of both
pub lex_deeper : (c d : ℕ) (p q : List ℕ) → c ≡ d → IsLexLess p q → IsLexLess (c ∷ p) (d ∷ q)
lex_deeper c d p q e l = record { place = suc l.place; same = lex_same c d p q l.place e l.same; less = l.less }

-- of two lists of one length, they are equal or one is less
pub lex_cases : (p q : List ℕ) → length p ≡ length q → (p ≡ q) ⊎ (IsLexLess p q ⊎ IsLexLess q p)
lex_cases [] [] e = inl refl
lex_cases [] (d ∷ q) e = absurd (omega arith)
lex_cases (c ∷ p) [] e = absurd (omega arith)
lex_cases (c ∷ p) (d ∷ q) e = elim (cases_order c d) [
  | inl same ↦ elim (lex_cases p q (omega arith)) [
    | inl rest ↦ inl (cc)
    | inr less ↦ elim less [
      | inl l ↦ inr (inl (lex_deeper c d p q same l))
      | inr l ↦ inr (inr (lex_deeper d c q p (sym same) l))
    ]
  ]
  | inr differ ↦ elim differ [
    | inl l ↦ inr (inl (record { place = 0; same = λ b k. absurd (omega arith); less = l }))
    | inr l ↦ inr (inr (record { place = 0; same = λ b k. absurd (omega arith); less = l }))
  ]
]

pub lex_trans : (p q r : List ℕ) → IsLexLess p q → IsLexLess q r → IsLexLess p r
lex_trans p q r h k = elim (cases_order h.place k.place) [
  | inl e ↦
      let l : code_of p k.place < code_of q k.place = subst (λ x. code_of p x < code_of q x) e h.less in
      let m = k.less in
      record {
        place = k.place;
        same = λ b i. h.same b (omega arith) ∙ k.same b i;
        less = omega arith;
      }
  | inr differ ↦ elim differ [
    | inl l ↦ let e = k.same h.place l in let m = h.less in
        record { place = h.place; same = λ b i. h.same b i ∙ k.same b (omega arith); less = omega arith }
    | inr l ↦ let e = h.same k.place l in let m = k.less in
        record { place = k.place; same = λ b i. h.same b (omega arith) ∙ k.same b i; less = omega arith }
  ]
]

-- of two plans, they are equal or one is before the other
pub before_cases : (c : Choices) (p q : List ℕ) → IsPlan c p → IsPlan c q → (p ≡ q) ⊎ (IsBefore c p q ⊎ IsBefore c q p)
before_cases c p q hp hq = elim (cases_order (total c p) (total c q)) [
  | inl e ↦ elim (lex_cases p q (hp.one_each ∙ sym hq.one_each)) [
    | inl same ↦ inl same
    | inr less ↦ elim less [ inl l ↦ inr (inl (inr (e, l))) | inr l ↦ inr (inr (inr (sym e, l))) ]
  ]
  | inr differ ↦ elim differ [ inl l ↦ inr (inl (inl l)) | inr l ↦ inr (inr (inl l)) ]
]

pub before_trans : (c : Choices) (p q r : List ℕ) → IsBefore c p q → IsBefore c q r → IsBefore c p r
before_trans c p q r h k = elim h [
  | inl a ↦ elim k [ inl b ↦ inl (omega arith) | inr b ↦ let e = b.0 in inl (omega arith) ]
  | inr a ↦ elim k [ inl b ↦ let e = a.0 in inl (omega arith) | inr b ↦ inr (a.0 ∙ b.0, lex_trans p q r a.1 b.1) ]
]

-- of two best plans, each is the other
pub best_same : (c : Choices) (p q : List ℕ) → IsBest c (Some p) → IsBest c (Some q) → p ≡ q
best_same c p q (hp, first) (hq, second) = elim (before_cases c p q hp.is_plan hq.is_plan) [
  | inl same ↦ same
  | inr differ ↦ elim differ [ inl a ↦ absurd (second p hp a) | inr a ↦ absurd (first q hq a) ]
]
