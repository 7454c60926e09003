-- Where a text is cut, and that the parts give it back.
use Rattle.std.proofs.Common.{◌≡◌, ◌≢◌, ℕ, zero, suc, ◌<◌, true, false, eqb, List, [], ◌∷◌, ◌++◌, length, get_or, take, drop, Some, None, refl, ap, subst, inl, inr, arith}
use Rattle.std.specs.List.{AllByRecursion, slice_split}
use Rattle.std.proofs.lemmas.Bool.{cases_Bool, eqb-true}
use Rattle.std.proofs.lemmas.Bool.Decides.{nat_tests}
use Rattle.std.proofs.lemmas.Option.{none-some, same_Some}
use Rattle.common_lists.proofs.ListLaws.{map_none}
use Rattle.text_parts.specs.Parts.{cut}
use Rattle.text_parts.proofs.OptionLaws.{map_some}

-- the first such byte is at i
pub cut-some : (sep : ℕ) (bs : List ℕ) (i : ℕ) → i < length bs → get_or bs i 0 ≡ sep → ((k : ℕ) → k < i → get_or bs k 0 ≢ sep)
    → cut sep bs ≡ Some (take i bs, drop (suc i) bs)
cut-some sep [] i lt here none = absurd (omega arith)
cut-some sep (b ∷ bs) zero lt here none = grind (arith, nat_tests)
cut-some sep (b ∷ bs) (suc i) lt here none =
    let other : eqb b sep ≡ false = grind (arith, nat_tests, none 0 (omega arith)) in
    rw (other, cut-some sep bs i (omega arith) here (λ k l. none (suc k) (omega arith))) refl

pub cut-none : (sep : ℕ) (bs : List ℕ) → ((k : ℕ) → k < length bs → get_or bs k 0 ≢ sep) → cut sep bs ≡ None
cut-none sep [] none = refl
cut-none sep (b ∷ bs) none =
    let other : eqb b sep ≡ false = grind (arith, nat_tests, none 0 (omega arith)) in
    rw (other, cut-none sep bs (λ k l. none (suc k) (omega arith))) refl

-- no such byte stands in the text
abbrev pub Lacks : ℕ → List ℕ → Type 0
Lacks sep text = AllByRecursion (λ b. eqb b sep ≡ false) text

abbrev pub pieces : ℕ → List ℕ → List (List ℕ)
pieces sep bytes = slice_split (λ b. eqb b sep) bytes

-- The bytes are these two parts with the byte between them, and the first part is the first piece.
pub record IsCut (sep : ℕ) (bs : List ℕ) (p : List ℕ × List ℕ) : Type 0 where
  pub whole : bs ≡ p.0 ++ sep ∷ p.1
  pub split : pieces sep bs ≡ p.0 ∷ pieces sep p.1

cut_here : (sep b : ℕ) (bs : List ℕ) (p : List ℕ × List ℕ) → eqb b sep ≡ true → Some ([], bs) ≡ Some p → IsCut sep (b ∷ bs) p
cut_here sep b bs p t e =
    subst (λ (q : List ℕ × List ℕ). IsCut sep (b ∷ bs) q) (same_Some ([], bs) p e)
    (record { whole = ap (λ (x : ℕ). x ∷ bs) (eqb-true b sep t); split = rw t refl })

cut_later : (sep b : ℕ) (bs : List ℕ) (p q : List ℕ × List ℕ) → eqb b sep ≡ false → IsCut sep bs q → (b ∷ q.0, q.1) ≡ p → IsCut sep (b ∷ bs) p
cut_later sep b bs p q t ih e =
    subst (λ (r : List ℕ × List ℕ). IsCut sep (b ∷ bs) r) e
    (record { whole = ap (λ (x : List ℕ). b ∷ x) ih.whole; split = rw (t, ih.split) refl })

pub cut-takes : (sep : ℕ) (bs : List ℕ) (p : List ℕ × List ℕ) → cut sep bs ≡ Some p → IsCut sep bs p
cut-takes sep [] p e = absurd (none-some p e)
cut-takes sep (b ∷ bs) p e =
    elim (cases_Bool (eqb b sep)) [
      | inl t ↦ cut_here sep b bs p t (rw t at e)
      | inr t ↦
          let m = map_some (λ (q : List ℕ × List ℕ). (b ∷ q.0, q.1)) (cut sep bs) p (rw t at e) in
          cut_later sep b bs p m.0 t (cut-takes sep bs m.0 m.1) m.2
    ]

pub cut-again : (sep : ℕ) (front rest : List ℕ) → Lacks sep front → cut sep (front ++ sep ∷ rest) ≡ Some (front, rest)
cut-again sep [] rest lacks = let same : eqb sep sep ≡ true = grind (arith, nat_tests) in rw same refl
cut-again sep (b ∷ bs) rest lacks = rw (lacks.0, cut-again sep bs rest lacks.1) refl

pub cut-whole : (sep : ℕ) (text : List ℕ) → Lacks sep text → cut sep text ≡ None
cut-whole sep [] lacks = refl
cut-whole sep (b ∷ bs) lacks = rw (lacks.0, cut-whole sep bs lacks.1) refl

-- a text that is not cut is one piece
pub split-whole : (sep : ℕ) (bs : List ℕ) → cut sep bs ≡ None → pieces sep bs ≡ bs ∷ []
split-whole sep [] e = refl
split-whole sep (b ∷ bs) e =
    elim (cases_Bool (eqb b sep)) [
      | inl t ↦ let bad : Some ([], bs) ≡ None = rw t at e in absurd cc
      | inr t ↦ rw (t, split-whole sep bs (map_none (λ (q : List ℕ × List ℕ). (b ∷ q.0, q.1)) (cut sep bs) (rw t at e))) refl
    ]

-- there is always a piece
pub some_piece : (sep : ℕ) (bs : List ℕ) → (x : List ℕ) × (xs : List (List ℕ)) × (pieces sep bs ≡ x ∷ xs)
some_piece sep [] = ([], [], refl)
some_piece sep (b ∷ bs) =
    let (x, xs, e) = some_piece sep bs in
    elim (cases_Bool (eqb b sep)) [
      | inl t ↦ ([], x ∷ xs, rw (t, e) refl)
      | inr t ↦ (b ∷ x, xs, rw (t, e) refl)
    ]
