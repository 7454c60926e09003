-- A day in its place.
use Rattle.std.proofs.Common.{◌≡◌, ℕ, suc, ◌+◌, ◌≤◌, ◌<◌, List, [], ◌∷◌, length, true, false, refl, ap, arith, nat_lt, inl, inr, subst, Bool}
use Rattle.std.specs.Prelude.{◌||◌, ◌==◌}
use Rattle.std.specs.List.{insert}
use Rattle.std.proofs.lemmas.Bool.{cases_Bool, eqb-true}
use Rattle.std.proofs.lemmas.Bool.Decides.{nat_tests}
use Rattle.shape_exact.specs.Days.{insert_day, place_of, are_days, has_day, with_day}

-- the day put at its place
pub insert_day-at_place : (d : ℕ) (ds : List ℕ) → insert ds (place_of d ds) d ≡ insert_day d ds
insert_day-at_place d [] = refl
insert_day-at_place d (x ∷ xs) =
    elim (cases_Bool (nat_lt x d)) [
      | inl less ↦ rw less (ap (λ ys. x ∷ ys) (insert_day-at_place d xs))
      | inr other ↦ rw other refl
    ]

-- one day more
pub length-insert_day : (d : ℕ) (ds : List ℕ) → length (insert_day d ds) ≡ length ds + 1
length-insert_day d [] = refl
length-insert_day d (x ∷ xs) =
    elim (cases_Bool (nat_lt x d)) [
      | inl less ↦ rw (less, length-insert_day d xs) (omega arith)
      | inr other ↦ rw other (omega arith)
    ]

-- days that ascend below a high one are few
pub few_days : (low high : ℕ) (ds : List ℕ) → low ≤ high → are_days low high ds ≡ true → length ds + low ≤ high
few_days low high [] le a = omega arith
few_days low high (d ∷ ds) le a = grind (arith, nat_tests, few_days (suc d) high ds)

-- a day that is not there goes in
pub insert_day-are_days : (low high d : ℕ) (ds : List ℕ) → low ≤ d → d < high → has_day d ds ≡ false → are_days low high ds ≡ true → are_days low high (insert_day d ds) ≡ true
insert_day-are_days low high d [] le small new a = grind (arith, nat_tests)
insert_day-are_days low high d (x ∷ xs) le small new a = grind (arith, nat_tests, insert_day-are_days (suc x) high d xs)

-- a list that lacks a day below 400 has fewer than 400
pub room : (d : ℕ) (ds : List ℕ) → d < 400 → has_day d ds ≡ false → are_days 0 400 ds ≡ true → length ds < 400
room d ds small new a =
    let more = few_days 0 400 (insert_day d ds) (omega arith) (insert_day-are_days 0 400 d ds (omega arith) small new a) in
    omega (arith, more, length-insert_day d ds)

-- the days stay within the bounds
pub with_day-are_days : (high d : ℕ) (ds : List ℕ) → d < high → are_days 0 high ds ≡ true → are_days 0 high (with_day d ds) ≡ true
with_day-are_days high d ds small a =
    elim (cases_Bool (has_day d ds)) [
      | inl there ↦ rw there a
      | inr new ↦ rw new (insert_day-are_days 0 high d ds (omega arith) small new a)
    ]

has_day-insert_day : (d e : ℕ) (ds : List ℕ) → has_day d (insert_day e ds) ≡ ((e == d) || has_day d ds)
has_day-insert_day d e [] = refl
has_day-insert_day d e (x ∷ xs) =
    elim (cases_Bool (nat_lt x e)) [
      | inl less ↦ rw (less, has_day-insert_day d e xs) (either (x == d) (e == d) (has_day d xs))
      | inr other ↦ rw other refl
    ]
  where
    either : (a b c : Bool) → (a || (b || c)) ≡ (b || (a || c))
    either true true c = refl
    either true false c = refl
    either false true c = refl
    either false false c = refl

-- a list that holds the day holds it besides
pub has_day-there : (d e : ℕ) (ds : List ℕ) → has_day e ds ≡ true → has_day d ds ≡ ((e == d) || has_day d ds)
has_day-there d e ds there = by (e == d) (λ same. subst (λ k. has_day k ds ≡ true) (eqb-true e d same) there)
  where
    by : (b : Bool) → (b ≡ true → has_day d ds ≡ true) → has_day d ds ≡ (b || has_day d ds)
    by true h = h refl
    by false h = refl

-- the list holds the day besides
pub has_day-with_day : (d e : ℕ) (ds : List ℕ) → has_day d (with_day e ds) ≡ ((e == d) || has_day d ds)
has_day-with_day d e ds =
    elim (cases_Bool (has_day e ds)) [
      | inl there ↦ rw there (has_day-there d e ds there)
      | inr new ↦ rw new (has_day-insert_day d e ds)
    ]
