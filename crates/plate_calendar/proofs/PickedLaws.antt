-- The days below a number that pass a test, and their counts.
use Rattle.std.proofs.Common.{◌≡◌, ℕ, zero, suc, ◌+◌, ◌-◌, ◌≤◌, ◌<◌, List, [], ◌∷◌, ◌++◌, length, Bool, true, false, refl, sym, ap, ◌∙◌, arith, nat_lt, cond, length-append, get_or}
use Rattle.std.specs.Prelude.{◌&&◌}
use Rattle.std.proofs.lemmas.Bool.{lt-ltb, le-ltb, and_left}
use Rattle.std.proofs.lemmas.List.Sums.{sum_by-append}
use Rattle.std.proofs.lemmas.List.{append-nil}
use Rattle.shape_exact.specs.Days.{are_days}
use Rattle.common_lists.specs.Each.{when}
use Rattle.common_lists.proofs.EachLaws.{each-suc, each_agree}
use Rattle.plate_calendar.specs.Counts.{count_below, IsCounted}
use Rattle.plate_calendar.proofs.DayLaws.{picked, one_if}
use Rattle.plate_calendar.proofs.CountLaws.{picked-are_days, are_days-higher, count_below-past, count_below-cons}

length-when : (b : Bool) (n : ℕ) → length (when b (n ∷ [])) ≤ 1
length-when true n = omega arith
length-when false n = omega arith

-- there are no more of them than numbers
pub length-picked : (p : ℕ → Bool) (n : ℕ) → length (picked p n) ≤ n
length-picked p zero = omega arith
length-picked p (suc n) =
    let a : length (picked p (suc n)) ≡ length (picked p n) + length (when (p n) (n ∷ [])) =
    ap length (each-suc n (λ d. when (p d) (d ∷ []))) ∙ length-append (picked p n) (when (p n) (n ∷ [])) in
    let b = length-when (p n) n in let c = length-picked p n in omega arith

-- one number more
pub picked-yes : (p : ℕ → Bool) (n : ℕ) → p n ≡ true → picked p n ++ n ∷ [] ≡ picked p (n + 1)
picked-yes p n y =
    ap (λ b. picked p n ++ when b (n ∷ [])) (sym y) ∙ sym (each-suc n (λ d. when (p d) (d ∷ [])))
    ∙ ap (picked p) (let e : suc n ≡ n + 1 = omega arith in e)

pub picked-no : (p : ℕ → Bool) (n : ℕ) → p n ≡ false → picked p n ≡ picked p (n + 1)
picked-no p n y =
    sym (append-nil (picked p n)) ∙ ap (λ b. picked p n ++ when b (n ∷ [])) (sym y) ∙ sym (each-suc n (λ d. when (p d) (d ∷ [])))
    ∙ ap (picked p) (let e : suc n ≡ n + 1 = omega arith in e)

none_of_late : (d n : ℕ) (b : Bool) → d ≤ n → count_below d (when b (n ∷ [])) ≡ 0
none_of_late d n true l = let e = count_below-cons d n [] in let f : one_if (nat_lt n d) ≡ 0 = ap one_if (le-ltb n d l) in omega arith
none_of_late d n false l = refl

-- the days below an earlier number are those of the shorter list
count_later : (p : ℕ → Bool) (d r : ℕ) → count_below d (picked p (d + r)) ≡ length (picked p d)
count_later p d zero =
    ap (λ n. count_below d (picked p n)) (let e : d + zero ≡ d = omega arith in e)
    ∙ count_below-past 0 d d (picked p d) (omega arith) (picked-are_days p d)
count_later p d (suc r) =
    ap (λ n. count_below d (picked p n)) (let e : d + suc r ≡ suc (d + r) = omega arith in e)
    ∙ ap (count_below d) (each-suc (d + r) (λ d. when (p d) (d ∷ [])))
    ∙ sum_by-append (λ e. cond (nat_lt e d) 1 0) (picked p (d + r)) (when (p (d + r)) ((d + r) ∷ []))
    ∙ (let a = count_later p d r in let b = none_of_late d (d + r) (p (d + r)) (omega arith) in
    let e : count_below d (picked p (d + r)) + count_below d (when (p (d + r)) ((d + r) ∷ [])) ≡ length (picked p d) = omega arith in e)

pub count_below-picked : (p : ℕ → Bool) (d n : ℕ) → d ≤ n → count_below d (picked p n) ≡ length (picked p d)
count_below-picked p d n l =
    ap (λ n. count_below d (picked p n)) (let e : n ≡ d + (n - d) = omega arith in e) ∙ count_later p d (n - d)

-- a test that holds below a number only picks nothing past it
cut_later : (p : ℕ → Bool) (d r : ℕ) → picked (λ e. nat_lt e d && p e) (d + r) ≡ picked p d
cut_later p d zero =
    ap (picked (λ e. nat_lt e d && p e)) (let e : d + zero ≡ d = omega arith in e)
    ∙ each_agree d (λ e. when (nat_lt e d && p e) (e ∷ [])) (λ e. when (p e) (e ∷ []))
    (λ i l. ap (λ b. when (b && p i) (i ∷ [])) (lt-ltb i d l))
cut_later p d (suc r) =
    ap (picked (λ e. nat_lt e d && p e)) (let e : d + suc r ≡ d + r + 1 = omega arith in e)
    ∙ sym (picked-no (λ e. nat_lt e d && p e) (d + r) (and_left (nat_lt (d + r) d) (p (d + r)) (le-ltb (d + r) d (omega arith))))
    ∙ cut_later p d r

pub picked-cut : (p : ℕ → Bool) (d n : ℕ) → d ≤ n → picked (λ e. nat_lt e d && p e) n ≡ picked p d
picked-cut p d n l =
    ap (picked (λ e. nat_lt e d && p e)) (let e : n ≡ d + (n - d) = omega arith in e) ∙ cut_later p d (n - d)

-- the days and the counts that a walk over the numbers to 400 leaves
pub counted_days : (p : ℕ → Bool) (days : ℕ) (opens counts : List ℕ) → days ≤ 400 → opens ≡ picked (λ e. nat_lt e days && p e) 401
    → ((k : ℕ) → k < 401 → get_or counts k 0 ≡ length (picked (λ e. nat_lt e days && p e) k)) → IsCounted opens counts
counted_days p days opens counts few is counted =
    record {
      ascending =
          ap (are_days 0 400) (is ∙ picked-cut p days 401 (omega arith))
          ∙ are_days-higher 0 days 400 (picked p days) few (picked-are_days p days);
      counted = λ d l.
          counted d (omega arith) ∙ sym (count_below-picked (λ e. nat_lt e days && p e) d 401 (omega arith))
          ∙ ap (count_below d) (sym is);
    }
