-- Counts of open days as sums, and the day on which work ends.
use Rattle.std.proofs.Common.{◌≡◌, ℕ, zero, suc, ◌+◌, ◌-◌, ◌≤◌, ◌<◌, List, [], ◌∷◌, ◌++◌, length, Option, Some, None, refl, sym, ap, ◌∙◌, arith, inl, inr, Bool, true, false, cond}
use Rattle.std.specs.Prelude.{slice_get, not, nat_le, filter, count_by, ◌&&◌, if◌then◌else◌}
use Rattle.std.proofs.lemmas.List.Elements.{filter-append}
use Rattle.std.proofs.lemmas.List.Sums.{sum_by-append, length-filter}
use Rattle.std.proofs.lemmas.Bool.{leb-true, le-leb, lt-leb, and_from}
use Rattle.std.proofs.lemmas.Option.{none-some, same_Some}
use Rattle.common_lists.specs.Each.{each, when, sum_below}
use Rattle.shape_exact.specs.Days.{has_day}
use Rattle.plate_calendar.specs.Calendars.{open_days, end_of, open_between}
use Rattle.common_lists.proofs.EachLaws.{each-suc, get-append_cases, sum-agree}

-- the days of a list that has each number below n once at most, where a test holds
abbrev pub picked : (ℕ → Bool) → ℕ → List ℕ
picked open' n = each n (λ d. when (open' d) (d ∷ []))

abbrev pub one_if : Bool → ℕ
one_if b = if b then 1 else 0

count_one : (p : ℕ → Bool) (b : Bool) (d : ℕ) → count_by p (when b (d ∷ [])) ≡ one_if (b && p d)
count_one p true d = (let e : 0 + cond (p d) 1 0 ≡ cond (p d) 1 0 = omega arith in e)
count_one p false d = refl

-- a count is a sum over the days
pub count-sum : (p open' : ℕ → Bool) (n : ℕ) → count_by p (picked open' n) ≡ sum_below n (λ d. one_if (open' d && p d))
count-sum p open' zero = refl
count-sum p open' (suc n) =
    ap (count_by p) (each-suc n (λ d. when (open' d) (d ∷ [])))
    ∙ sum_by-append (λ d. cond (p d) 1 0) (picked open' n) (when (open' n) (n ∷ []))
    ∙ ap (λ m. m + count_by p (when (open' n) (n ∷ []))) (count-sum p open' n)
    ∙ ap (λ m. sum_below n (λ d. one_if (open' d && p d)) + m) (count_one p (open' n) n)

and_true : (a b c : Bool) → c ≡ true → (a && (b && c)) ≡ (a && b)
and_true a true c e = ap (λ c. a && c) e
and_true a false c e = refl

pub and_last_false : (a b c : Bool) → c ≡ false → one_if (a && (b && c)) ≡ 0
and_last_false a true c e = ap (λ c. one_if (a && c)) e ∙ none_if a
  where
    none_if : (a : Bool) → one_if (a && false) ≡ 0
    none_if true = refl
    none_if false = refl
and_last_false true false c e = refl
and_last_false false false c e = refl

-- the only day of a list of one day at most
only_day : (b p : Bool) (n m e : ℕ) → slice_get (cond b (cond p (n ∷ []) []) []) m ≡ Some e → (b ≡ true) × (p ≡ true) × (n ≡ e) × (m ≡ 0)
only_day true true n zero e h = (refl, refl, same_Some n e h, refl)
only_day true true n (suc m) e h = absurd (none-some e h)
only_day true false n m e h = absurd (none-some e h)
only_day false p n m e h = absurd (none-some e h)

filter_when : (p : ℕ → Bool) (b : Bool) (n : ℕ) → filter p (when b (n ∷ [])) ≡ cond b (cond (p n) (n ∷ []) []) []
filter_when p true n = refl
filter_when p false n = refl

-- the k-th day from the start on: so many days are there from the start to it
pub nth_day : (open' : ℕ → Bool) (n start k e : ℕ) → slice_get (filter (λ d. nat_le start d) (picked open' n)) k ≡ Some e
    → (start ≤ e) × (e < n) × (sum_below n (λ d. one_if (open' d && (nat_le start d && nat_le d e))) ≡ k + 1)
nth_day open' zero start k e h = absurd (none-some e h)
nth_day open' (suc n) start k e h =
    let p : ℕ → Bool = λ d. nat_le start d in
    let split : filter p (picked open' (suc n)) ≡ filter p (picked open' n) ++ filter p (when (open' n) (n ∷ [])) =
    ap (filter p) (each-suc n (λ d. when (open' d) (d ∷ []))) ∙ filter-append p (picked open' n) (when (open' n) (n ∷ [])) in
    elim (get-append_cases (filter p (picked open' n)) (filter p (when (open' n) (n ∷ []))) k e (ap (λ xs. slice_get xs k) (sym split) ∙ h)) [
      | inl front ↦
          let (a, b, c) = nth_day open' n start k e front in
          let last = and_last_false (open' n) (nat_le start n) (nat_le n e) (lt-leb n e b) in
          (a, omega arith, omega arith)
      | inr back ↦
          let (m, at, is) = back in
          let (b, q, same, first) = only_day (open' n) (p n) n m e (ap (λ xs. slice_get xs m) (sym (filter_when p (open' n) n)) ∙ at) in
          let long : length (filter p (picked open' n)) ≡ sum_below n (λ d. one_if (open' d && nat_le start d)) =
          length-filter p (picked open' n) ∙ count-sum p open' n in
          let front : sum_below n (λ d. one_if (open' d && (nat_le start d && nat_le d e))) ≡ sum_below n (λ d. one_if (open' d && nat_le start d)) =
          sum-agree n _ _ (λ d l. ap one_if (and_true (open' d) (nat_le start d) (nat_le d e) (le-leb d e (omega arith)))) in
          let here : one_if (open' n && (nat_le start n && nat_le n e)) ≡ 1 =
          ap one_if (and_from (open' n) (nat_le start n && nat_le n e) b (and_from (nat_le start n) (nat_le n e) q (le-leb n e (omega arith)))) in
          let low = leb-true start n q in
          (omega arith, omega arith, omega arith)
    ]

-- what it is to end on a day: the day is there, and from the start to it there are so many open days
pub end_law : (days start duration e : ℕ) (closed : List ℕ) → 0 < duration → end_of (open_days days closed) start duration ≡ Some e
    → (start ≤ e) × (e < days) × (open_between (open_days days closed) start e ≡ duration)
end_law days start duration e closed pos h =
    let (a, b, c) = nth_day (λ d. not (has_day d closed)) days start (duration - 1) e
    (picked_some (has_day start (open_days days closed)) (slice_get (filter (λ d. nat_le start d) (open_days days closed)) (duration - 1)) e h) in
    (a, b, count-sum (λ d. nat_le start d && nat_le d e) (λ d. not (has_day d closed)) days ∙ (let f : _ ≡ duration = omega arith in f))
  where
    picked_some : (b : Bool) (o : Option ℕ) (e : ℕ) → (if b then o else None) ≡ Some e → o ≡ Some e
    picked_some true o e h = h
    picked_some false o e h = absurd (none-some e h)
