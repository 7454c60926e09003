-- What is read is spelled so, and what is spelled so is read: fields and lists.
use Rattle.std.proofs.Common.{◌≡◌, ℕ, ◌+◌, ◌%◌, mod-lt, lit<, ◌^◌, ◌<◌, ◌≤◌, false, cond, eqb, leb, List, [], ◌∷◌, ◌++◌, map, Option, Some, None, refl, sym, ap, subst, ◌∙◌, inl, inr, arith}
use Rattle.std.specs.Fmt.{decimal}
use Rattle.std.specs.List.{AllByRecursion, join_with_byte}
use Rattle.std.specs.Str.{bytes_eq}
use Rattle.std.proofs.lemmas.Bool.{cases_Bool, leb-true, le-leb}
use Rattle.std.proofs.lemmas.Bool.Decides.{nat_tests}
use Rattle.std.proofs.lemmas.Option.{same_Some, cond_some}
use Rattle.std.proofs.lemmas.Slice.Eq.{bytes_eq-Decides}
use Rattle.std.proofs.lemmas.List.Splits.{join_with_byte-slice_split}
use Rattle.std.proofs.lemmas.Fmt.{decimal_by_steps}
use Rattle.text_parts.specs.Parts.{◌>>=◌, cut, field}
use Rattle.text_parts.proofs.FieldLaws.{Within, within_append, within_wider, lacks_below, lacks_above, decimal_within, field-takes, field-again}
use Rattle.refutation_log.specs.Citations.{Ascend}
use Rattle.refutation_log.specs.Spelling.{list_text}
use Rattle.refutation_log.specs.Reading.{next_of, ascending, list_of}
use Rattle.text_parts.proofs.OptionLaws.{bind_some}
use Rattle.text_parts.proofs.CutLaws.{Lacks, pieces, cut-takes, cut-again, cut-whole, split-whole, some_piece}

-- ---- lists

-- what a reader of one thing says of its text
pub record Spells {X : Type 0} (read : List ℕ → Option X) (text : X → List ℕ) (P : X → Type 0) : Type 0 where
  pub takes : (t : List ℕ) (x : X) → read t ≡ Some x → (t ≡ text x) × P x
  pub again : (x : X) → P x → read (text x) ≡ Some x
  pub bytes : (x : X) → P x → Within 46 58 (text x)

module _ {X : Type 0} (key : X → ℕ) (read : List ℕ → Option X) (text : X → List ℕ) (P : X → Type 0) (one : Spells read text P) where
  next-takes : (n : ℕ) (t : List ℕ) (x : X) → next_of key read n t ≡ Some x → (t ≡ text x) × P x × (n ≤ key x)
  next-takes n t x e =
      let (y, found, made) = bind_some (read t) (λ x. cond (leb n (key x)) (Some x) None) x e in
      let c = cond_some (leb n (key y)) y x made in
      let h = one.takes t y found in
      subst (λ (z : X). (t ≡ text z) × P z × (n ≤ key z)) c.1 (h.0, h.1, leb-true n (key y) c.0)

  next-again : (n : ℕ) (x : X) → P x → n ≤ key x → next_of key read n (text x) ≡ Some x
  next-again n x p le = rw (one.again x p, le-leb n (key x) le) refl

  ascending-takes : (n : ℕ) (ts : List (List ℕ)) (xs : List X) → ascending key read n ts ≡ Some xs → (ts ≡ map text xs) × Ascend key n xs × AllByRecursion P xs
  ascending-takes n [] xs e = subst (λ (ys : List X). ([] ≡ map text ys) × Ascend key n ys × AllByRecursion P ys) (same_Some [] xs e) (refl, tt, tt)
  ascending-takes n (t ∷ ts) xs e =
      let (x, found, more) = bind_some (next_of key read n t) (λ x. ascending key read (key x + 1) ts >>= λ xs. Some (x ∷ xs)) xs e in
      let (ys, found_more, made) = bind_some (ascending key read (key x + 1) ts) (λ ys. Some (x ∷ ys)) xs more in
      let first = next-takes n t x found in
      let others = ascending-takes (key x + 1) ts ys found_more in
      subst (λ (zs : List X). (t ∷ ts ≡ map text zs) × Ascend key n zs × AllByRecursion P zs) (same_Some (x ∷ ys) xs made)
      (ap (λ (s : List ℕ). s ∷ ts) first.0 ∙ ap (λ (ss : List (List ℕ)). text x ∷ ss) others.0, (first.2, others.1), (first.1, others.2))

  ascending-again : (n : ℕ) (xs : List X) → Ascend key n xs → AllByRecursion P xs → ascending key read n (map text xs) ≡ Some xs
  ascending-again n [] up ps = refl
  ascending-again n (x ∷ xs) up ps = rw (next-again n x ps.0 up.0, ascending-again (key x + 1) xs up.1 ps.1) refl

  lacks_comma : (x : X) → P x → Lacks 44 (text x)
  lacks_comma x p = lacks_below 44 46 58 (text x) (omega arith) (one.bytes x p)

  -- the pieces of the texts with commas between them are the texts
  joined : (x : X) (xs : List X) → AllByRecursion P (x ∷ xs) → pieces 44 (join_with_byte 44 (map text (x ∷ xs))) ≡ map text (x ∷ xs)
  joined x [] ps = split-whole 44 (text x) (cut-whole 44 (text x) (lacks_comma x ps.0))
  joined x (y ∷ ys) ps =
      let rest = join_with_byte 44 (map text (y ∷ ys)) in
      let cuts = cut-again 44 (text x) rest (lacks_comma x ps.0) in
      (cut-takes 44 (text x ++ 44 ∷ rest) (text x, rest) cuts).split ∙ ap (λ (ts : List (List ℕ)). text x ∷ ts) (joined y ys ps.1)

  list-rest : (t : List ℕ) (xs : List X) → ascending key read 0 (pieces 44 t) ≡ Some xs → (t ≡ list_text text xs) × Ascend key 0 xs × AllByRecursion P xs
  list-rest t [] e =
      let h = ascending-takes 0 (pieces 44 t) [] e in
      let (y, ys, some) = some_piece 44 t in
      let bad : y ∷ ys ≡ [] = sym some ∙ h.0 in
      absurd cc
  list-rest t (x ∷ xs) e =
      let h = ascending-takes 0 (pieces 44 t) (x ∷ xs) e in
      (sym (join_with_byte-slice_split 44 t) ∙ ap (join_with_byte 44) h.0, h.1, h.2)

  pub list-takes : (t : List ℕ) (xs : List X) → list_of key read t ≡ Some xs → (t ≡ list_text text xs) × Ascend key 0 xs × AllByRecursion P xs
  list-takes t xs e =
      elim (cases_Bool (bytes_eq t (45 ∷ []))) [
        | inl dash ↦
            let is = (bytes_eq-Decides t (45 ∷ [])).0 dash in
            let none : Some [] ≡ Some xs = rw dash at e in
            subst (λ (ys : List X). (t ≡ list_text text ys) × Ascend key 0 ys × AllByRecursion P ys) (same_Some [] xs none) (is, tt, tt)
        | inr other ↦ list-rest t xs (rw other at e)
      ]

  no_dash : (s : List ℕ) → Within 46 58 s → bytes_eq s (45 ∷ []) ≡ false
  no_dash [] w = refl
  no_dash (b ∷ bs) w = let other : eqb b 45 ≡ false = grind (arith, nat_tests, w.0) in rw other refl

  no_dash_before : (s rest : List ℕ) → Within 46 58 s → bytes_eq (s ++ 44 ∷ rest) (45 ∷ []) ≡ false
  no_dash_before [] rest w = refl
  no_dash_before (b ∷ bs) rest w = let other : eqb b 45 ≡ false = grind (arith, nat_tests, w.0) in rw other refl

  some_list : (x : X) (xs : List X) → AllByRecursion P (x ∷ xs) → bytes_eq (join_with_byte 44 (map text (x ∷ xs))) (45 ∷ []) ≡ false
  some_list x [] ps = no_dash (text x) (one.bytes x ps.0)
  some_list x (y ∷ ys) ps = no_dash_before (text x) (join_with_byte 44 (map text (y ∷ ys))) (one.bytes x ps.0)

  pub list-again : (xs : List X) → Ascend key 0 xs → AllByRecursion P xs → list_of key read (list_text text xs) ≡ Some xs
  list-again [] up ps = refl
  list-again (x ∷ xs) up ps = rw (some_list x xs ps) (ap (ascending key read 0) (joined x xs ps) ∙ ascending-again 0 (x ∷ xs) up ps)

  list_within_some : (x : X) (xs : List X) → AllByRecursion P (x ∷ xs) → Within 44 58 (join_with_byte 44 (map text (x ∷ xs)))
  list_within_some x [] ps = within_wider 46 58 44 58 (text x) (omega arith) (omega arith) (one.bytes x ps.0)
  list_within_some x (y ∷ ys) ps =
      within_append 44 58 (text x) (44 ∷ join_with_byte 44 (map text (y ∷ ys))) (within_wider 46 58 44 58 (text x) (omega arith) (omega arith) (one.bytes x ps.0)) ((omega arith, omega arith), list_within_some y ys ps.1)

  pub list_within : (xs : List X) → AllByRecursion P xs → Within 44 58 (list_text text xs)
  list_within [] ps = ((omega arith, omega arith), tt)
  list_within (x ∷ xs) ps = list_within_some x xs ps
