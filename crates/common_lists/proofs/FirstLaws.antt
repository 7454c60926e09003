-- The first of several values: where it is found, and when there is none.
use Rattle.std.proofs.Common.{◌≡◌, ℕ, zero, suc, ◌+◌, ◌<◌, Option, Some, None, refl, sym, ◌∙◌, subst, arith, inl, inr, add-one}
use Rattle.std.specs.Option.{option_or}
use Rattle.std.proofs.lemmas.Bool.{cases_lt}
use Rattle.std.proofs.lemmas.Option.{none-some}
use Rattle.common_lists.specs.Firsts.{first_below}

-- none of the numbers so far, nor this one
pub first_more : {A : Type 0} (i : ℕ) (f : ℕ → Option A) → first_below i f ≡ None → f i ≡ None → first_below (i + 1) f ≡ None
first_more i f h k = rw (add-one, h) k

-- none of the numbers so far, but this one
pub first_is : {A : Type 0} (n i : ℕ) (f : ℕ → Option A) (x : A) → first_below i f ≡ None → i < n → f i ≡ Some x → first_below n f ≡ Some x
first_is zero i f x h l e = absurd (omega arith)
first_is (suc n) i f x h l e = elim (cases_lt i n) [
  | inl below ↦ rw (first_is n i f x h below e) refl
  | inr last ↦
      let same : i ≡ n = omega arith in
      rw (subst (λ k. first_below k f ≡ None) same h) (subst (λ k. f k ≡ Some x) same e)
]

-- nothing where each of the numbers has nothing
pub none_below : {A : Type 0} (n : ℕ) (f : ℕ → Option A) → ((i : ℕ) → i < n → f i ≡ None) → first_below n f ≡ None
none_below zero f h = refl
none_below (suc n) f h = rw (none_below n f (λ i l. h i (omega arith))) (h n (omega arith))

-- and each of them has nothing where there is no first
pub none_at : {A : Type 0} (n : ℕ) (f : ℕ → Option A) → first_below n f ≡ None → (i : ℕ) → i < n → f i ≡ None
none_at {A} zero f e i l = absurd (omega arith)
none_at {A} (suc n) f e i l = elim (cases_lt i n) [
  | inl below ↦ none_at n f (left (first_below n f) (f n) e) i below
  | inr last ↦ let same : n ≡ i = omega arith in subst (λ k. f k ≡ None) same (right (first_below n f) (f n) e)
]
  where
    left : (o p : Option A) → option_or o p ≡ None → o ≡ None
    left None p e = refl
    left (Some x) p e = e

    right : (o p : Option A) → option_or o p ≡ None → p ≡ None
    right None p e = e
    right (Some x) p e = absurd (none-some x (sym e))

-- the first is found at one of the numbers
pub some_at : {A : Type 0} (n : ℕ) (f : ℕ → Option A) (x : A) → first_below n f ≡ Some x → (i : ℕ) × (i < n) × (f i ≡ Some x)
some_at {A} zero f x e = absurd (none-some x e)
some_at {A} (suc n) f x e = by (first_below n f) refl (λ h. some_at n f x h)
  where
    by : (o : Option A) → first_below n f ≡ o → (first_below n f ≡ Some x → (i : ℕ) × (i < n) × (f i ≡ Some x)) → (i : ℕ) × (i < suc n) × (f i ≡ Some x)
    by None h ih = (n, omega arith, subst (λ o. option_or o (f n) ≡ Some x) h e)
    by (Some y) h ih = let (i, l, at) = ih (h ∙ subst (λ o. option_or o (f n) ≡ Some x) h e) in (i, omega arith, at)
