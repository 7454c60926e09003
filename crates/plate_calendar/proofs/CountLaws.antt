-- Counts of ascending days, and what they say of the days from a start on.
use Rattle.std.proofs.Common.{◌≡◌, ℕ, zero, suc, ◌+◌, ◌≤◌, ◌<◌, List, [], ◌∷◌, ◌++◌, length, drop, Bool, true, false, refl, sym, ap, ◌∙◌, arith, inl, inr, nat_lt, nat_le, ◌&&◌, cond}
use Rattle.std.specs.Prelude.{filter, count_by, ◌==◌, ◌||◌}
use Rattle.std.proofs.lemmas.Bool.{cases_lt, lt-ltb, le-ltb, le-leb, lt-leb, ltb-true, leb-true, and_parts, and_from, or_from, ne_eqb}
use Rattle.std.proofs.lemmas.Bool.Decides.{nat_tests}
use Rattle.std.proofs.lemmas.List.Sums.{sum_by-cons}
use Rattle.std.proofs.lemmas.List.{append-nil}
use Rattle.shape_exact.specs.Days.{has_day, are_days}
use Rattle.common_lists.specs.Each.{when}
use Rattle.common_lists.proofs.EachLaws.{each-suc}
use Rattle.plate_calendar.specs.Counts.{count_below}
use Rattle.plate_calendar.proofs.DayLaws.{picked, one_if}

-- one day more at the front
count_by-cons : (p : ℕ → Bool) (x : ℕ) (xs : List ℕ) → count_by p (x ∷ xs) ≡ cond (p x) 1 0 + count_by p xs
count_by-cons p x xs = sum_by-cons (λ e. cond (p e) 1 0) x xs

pub count_below-cons : (d x : ℕ) (xs : List ℕ) → count_below d (x ∷ xs) ≡ cond (nat_lt x d) 1 0 + count_below d xs
count_below-cons d x xs = count_by-cons (λ e. nat_lt e d) x xs

-- what ascending days say of the first of them, and of the rest
pub first_day : (low high x : ℕ) (xs : List ℕ) → are_days low high (x ∷ xs) ≡ true → (low ≤ x) × (x < high) × (are_days (suc x) high xs ≡ true)
first_day low high x xs a =
    let (b, c) = and_parts (nat_le low x && nat_lt x high) (are_days (suc x) high xs) a in
    let (d, e) = and_parts (nat_le low x) (nat_lt x high) b in
    (leb-true low x d, ltb-true x high e, c)

-- where all days are at or after a number, none is below it and all are from it on
pub none_below : (d low high : ℕ) (xs : List ℕ) → d ≤ low → are_days low high xs ≡ true → count_below d xs ≡ 0
none_below d low high [] l a = refl
none_below d low high (x ∷ xs) l a =
    let (b, c, t) = first_day low high x xs a in
    let e = count_below-cons d x xs in
    let f = none_below d (suc x) high xs (omega arith) t in
    let g : one_if (nat_lt x d) ≡ 0 = ap one_if (le-ltb x d (omega arith)) in
    omega arith

pub all_from : (d low high : ℕ) (xs : List ℕ) → d ≤ low → are_days low high xs ≡ true → filter (λ e. nat_le d e) xs ≡ xs
all_from d low high [] l a = refl
all_from d low high (x ∷ xs) l a =
    let (b, c, t) = first_day low high x xs a in
    ap (λ t. cond t (x ∷ filter (λ e. nat_le d e) xs) (filter (λ e. nat_le d e) xs)) (le-leb d x (omega arith))
    ∙ ap (λ ys. x ∷ ys) (all_from d (suc x) high xs (omega arith) t)

-- the days from a start on are the list without the days below the start
pub filter_from : (d low high : ℕ) (xs : List ℕ) → are_days low high xs ≡ true → filter (λ e. nat_le d e) xs ≡ drop (count_below d xs) xs
filter_from d low high [] a = refl
filter_from d low high (x ∷ xs) a =
    let (b, c, t) = first_day low high x xs a in
    let e = count_below-cons d x xs in
    let again : are_days x high (x ∷ xs) ≡ true = and_from _ _ (and_from _ _ (le-leb x x (omega arith)) (lt-ltb x high c)) t in
    elim (cases_lt x d) [
      | inl below ↦
          let one : one_if (nat_lt x d) ≡ 1 = ap one_if (lt-ltb x d below) in
          let n : count_below d (x ∷ xs) ≡ suc (count_below d xs) = omega arith in
          ap (λ t. cond t (x ∷ filter (λ e. nat_le d e) xs) (filter (λ e. nat_le d e) xs)) (lt-leb d x below)
          ∙ filter_from d (suc x) high xs t ∙ ap (λ n. drop n (x ∷ xs)) (sym n)
      | inr from ↦
          all_from d x high (x ∷ xs) from again ∙ ap (λ n. drop n (x ∷ xs)) (sym (none_below d x high (x ∷ xs) from again))
    ]

next_one : (d x : ℕ) → cond (nat_lt x (d + 1)) 1 0 ≡ cond (nat_lt x d) 1 0 + cond (x == d) 1 0
next_one d x = grind (arith, nat_tests)

-- below the next number is one day more, where the day is in the list
pub count_below-next : (d : ℕ) (xs : List ℕ) → count_below (d + 1) xs ≡ count_below d xs + count_by (λ e. e == d) xs
count_below-next d [] = refl
count_below-next d (x ∷ xs) =
    let a = count_below-cons (d + 1) x xs in let b = count_below-cons d x xs in
    let c = count_by-cons (λ e. e == d) x xs in let e = next_one d x in let f = count_below-next d xs in omega arith

more_than_none : (b : Bool) (n : ℕ) → (b || nat_lt 0 n) ≡ nat_lt 0 (cond b 1 0 + n)
more_than_none true n = sym (lt-ltb 0 (1 + n) (omega arith))
more_than_none false n = ap (nat_lt 0) (let e : n ≡ 0 + n = omega arith in e)

pub has_day-count : (d : ℕ) (xs : List ℕ) → has_day d xs ≡ nat_lt 0 (count_by (λ e. e == d) xs)
has_day-count d [] = refl
has_day-count d (x ∷ xs) =
    ap (λ b. (x == d) || b) (has_day-count d xs) ∙ more_than_none (x == d) (count_by (λ e. e == d) xs)
    ∙ ap (nat_lt 0) (sym (count_by-cons (λ e. e == d) x xs))

more_than : (m n k : ℕ) → n ≡ m + k → nat_lt 0 k ≡ nat_lt m n
more_than m n k e = grind (arith, nat_tests)

-- a day is in the list where the counts step
pub has_day-step : (d : ℕ) (xs : List ℕ) → nat_lt (count_below d xs) (count_below (d + 1) xs) ≡ has_day d xs
has_day-step d xs = sym (has_day-count d xs ∙ more_than (count_below d xs) (count_below (d + 1) xs) _ (count_below-next d xs))

-- no day is past the last
pub has_day-past : (low high d : ℕ) (xs : List ℕ) → high ≤ d → are_days low high xs ≡ true → has_day d xs ≡ false
has_day-past low high d [] l a = refl
has_day-past low high d (x ∷ xs) l a =
    let (b, c, t) = first_day low high x xs a in
    or_from (x == d) (has_day d xs) (ne_eqb x d (λ e. omega arith)) (has_day-past (suc x) high d xs l t)

between_one : (first last x : ℕ) → first ≤ last + 1
    → cond (nat_lt x (last + 1)) 1 0 ≡ cond (nat_lt x first) 1 0 + cond (nat_le first x && nat_le x last) 1 0
between_one first last x l = grind (arith, nat_tests)

-- the days of a window
pub count_between : (first last : ℕ) (xs : List ℕ) → first ≤ last + 1
    → count_below (last + 1) xs ≡ count_below first xs + count_by (λ d. nat_le first d && nat_le d last) xs
count_between first last [] l = refl
count_between first last (x ∷ xs) l =
    let a = count_below-cons (last + 1) x xs in let b = count_below-cons first x xs in
    let c = count_by-cons (λ d. nat_le first d && nat_le d last) x xs in
    let e = between_one first last x l in let f = count_between first last xs l in omega arith

none_one : (first last x : ℕ) → last < first → one_if (nat_le first x && nat_le x last) ≡ 0
none_one first last x l = grind (arith, nat_tests)

pub none_between : (first last : ℕ) (xs : List ℕ) → last < first → count_by (λ d. nat_le first d && nat_le d last) xs ≡ 0
none_between first last [] l = refl
none_between first last (x ∷ xs) l =
    let c = count_by-cons (λ d. nat_le first d && nat_le d last) x xs in
    let e = none_one first last x l in let f = none_between first last xs l in omega arith

-- past the last day nothing more is counted
pub count_below-past : (low high d : ℕ) (xs : List ℕ) → high ≤ d → are_days low high xs ≡ true → count_below d xs ≡ length xs
count_below-past low high d [] l a = refl
count_below-past low high d (x ∷ xs) l a =
    let (b, c, t) = first_day low high x xs a in
    let e = count_below-cons d x xs in
    let f : one_if (nat_lt x d) ≡ 1 = ap one_if (lt-ltb x d (omega arith)) in
    let g = count_below-past (suc x) high d xs l t in omega arith

-- a day at the end
pub are_days_push : (low high d : ℕ) (xs : List ℕ) → low ≤ d → d < high → are_days low d xs ≡ true → are_days low high (xs ++ d ∷ []) ≡ true
are_days_push low high d [] l s a = and_from _ _ (and_from _ _ (le-leb low d l) (lt-ltb d high s)) refl
are_days_push low high d (x ∷ xs) l s a =
    let (b, c, t) = first_day low d x xs a in
    and_from _ _ (and_from _ _ (le-leb low x b) (lt-ltb x high (omega arith))) (are_days_push (suc x) high d xs (omega arith) s t)

-- a higher bound
pub are_days-higher : (low d high : ℕ) (xs : List ℕ) → d ≤ high → are_days low d xs ≡ true → are_days low high xs ≡ true
are_days-higher low d high [] l a = refl
are_days-higher low d high (x ∷ xs) l a =
    let (b, c, t) = first_day low d x xs a in
    and_from _ _ (and_from _ _ (le-leb low x b) (lt-ltb x high (omega arith))) (are_days-higher (suc x) d high xs l t)

one_more : (b : Bool) (n : ℕ) (xs : List ℕ) → are_days 0 n xs ≡ true → are_days 0 (suc n) (xs ++ when b (n ∷ [])) ≡ true
one_more true n xs a = are_days_push 0 (suc n) n xs (omega arith) (omega arith) a
one_more false n xs a = ap (are_days 0 (suc n)) (append-nil xs) ∙ are_days-higher 0 n (suc n) xs (omega arith) a

-- the days below a number with a test ascend
pub picked-are_days : (p : ℕ → Bool) (n : ℕ) → are_days 0 n (picked p n) ≡ true
picked-are_days p zero = refl
picked-are_days p (suc n) =
    ap (are_days 0 (suc n)) (each-suc n (λ d. when (p d) (d ∷ []))) ∙ one_more (p n) n (picked p n) (picked-are_days p n)
