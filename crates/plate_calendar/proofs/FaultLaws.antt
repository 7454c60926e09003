-- Lists of closed days: the days marked so far, and the first entry that is not good.
use Rattle.std.proofs.Common.{◌≡◌, ℕ, zero, suc, ◌+◌, ◌≤◌, ◌<◌, List, [], ◌∷◌, length, take, set, get_or, Bool, true, false, not, refl, sym, ap, ◌∙◌, arith, inl, inr, subst, get_or-set_same, get_or-set_other}
use Rattle.std.specs.Prelude.{slice_get, Some, ◌==◌, ◌||◌}
use Rattle.std.proofs.lemmas.Bool.{cases_eq, false≢true, eq-eqb, ne_eqb, or_from, or_right}
use Rattle.std.proofs.lemmas.List.{take_all}
use Rattle.std.proofs.lemmas.List.Folds.{list_any_more}
use Rattle.std.proofs.lemmas.Option.{none-some, same_Some, slice_get-get_or, slice_get_within}
use Rattle.shape_exact.specs.Days.{has_day, are_days}
use Rattle.common_lists.specs.Each.{each, when}
use Rattle.common_lists.proofs.EachLaws.{each_agree}
use Rattle.plate_calendar.specs.Calendars.{open_days}
use Rattle.plate_calendar.specs.Faults.{IsGoodEntry, IsFirstFault}
use Rattle.plate_calendar.specs.declared.day_fault.DayFault.{DayFault}
use Rattle.plate_calendar.specs.declared.day_fault.DayFault.TheVariants.{Range, Twice}
use Rattle.plate_calendar.proofs.CountLaws.{first_day}

or_false : (b : Bool) → b ≡ (b || false)
or_false true = refl
or_false false = refl

-- the day at one more place is marked
pub marks_more : (marks : List Bool) (closed : List ℕ) (i : ℕ) → i < length closed → get_or closed i 0 < length marks
    → ((d : ℕ) → d < 400 → get_or marks d false ≡ has_day d (take i closed))
    → (d : ℕ) → d < 400 → get_or (set marks (get_or closed i 0) true) d false ≡ has_day d (take (i + 1) closed)
marks_more marks closed i l m h d s = elim (cases_eq d (get_or closed i 0)) [
  | inl same ↦
      ap (λ n. get_or (set marks (get_or closed i 0) true) n false) same ∙ get_or-set_same marks (get_or closed i 0) true false m
      ∙ sym (list_any_more (λ e. e == d) closed i 0 l ∙ or_right (has_day d (take i closed)) (get_or closed i 0 == d) (eq-eqb (get_or closed i 0) d (sym same)))
  | inr other ↦
      get_or-set_other marks (get_or closed i 0) d true false other ∙ h d s
      ∙ or_false (has_day d (take i closed))
      ∙ ap (λ b. has_day d (take i closed) || b) (sym (ne_eqb (get_or closed i 0) d (λ e. other (sym e))))
      ∙ sym (list_any_more (λ e. e == d) closed i 0 l)
]

-- an entry below the number of days that is not marked is good
pub good_entry : (days : ℕ) (closed : List ℕ) (i : ℕ) → i < length closed → get_or closed i 0 < days
    → has_day (get_or closed i 0) (take i closed) ≡ false → IsGoodEntry days closed i
good_entry days closed i l s new d at =
    let same : get_or closed i 0 ≡ d = same_Some _ _ (sym (slice_get-get_or closed i 0 l) ∙ at) in
    (omega arith, subst (λ d. has_day d (take i closed) ≡ false) same new)

-- where each entry is good, each place is
pub good_all : (days : ℕ) (closed : List ℕ) (n : ℕ) → length closed ≤ n → ((k : ℕ) → k < n → IsGoodEntry days closed k)
    → (k : ℕ) → IsGoodEntry days closed k
good_all days closed n all h k d at = let l = slice_get_within closed k d at in h k (omega arith) d at

-- the days that are not marked are the open days
pub open_days-marks : (days n : ℕ) (marks : List Bool) (closed : List ℕ) → days ≤ 400 → length closed ≤ n
    → ((d : ℕ) → d < 400 → get_or marks d false ≡ has_day d (take n closed))
    → each days (λ d. when (not (get_or marks d false)) (d ∷ [])) ≡ open_days days closed
open_days-marks days n marks closed few all h =
    each_agree days (λ d. when (not (get_or marks d false)) (d ∷ [])) (λ d. when (not (has_day d closed)) (d ∷ []))
    (λ d l. ap (λ b. when (not b) (d ∷ [])) (h d (omega arith) ∙ ap (has_day d) (take_all n closed all)))

-- each entry of an ascending list is good
pub ascending_good : (low high i d : ℕ) (xs : List ℕ) → are_days low high xs ≡ true → slice_get xs i ≡ Some d
    → (low ≤ d) × (d < high) × (has_day d (take i xs) ≡ false)
ascending_good low high i d [] a at = absurd (none-some d at)
ascending_good low high zero d (x ∷ xs) a at =
    let (b, c, t) = first_day low high x xs a in let e = same_Some x d at in (omega arith, omega arith, refl)
ascending_good low high (suc i) d (x ∷ xs) a at =
    let (b, c, t) = first_day low high x xs a in
    let (e, f, g) = ascending_good (suc x) high i d xs t at in
    (omega arith, f, or_from (x == d) (has_day d (take i xs)) (ne_eqb x d (λ s. omega arith)) g)

-- an ascending list has no fault
pub no_fault : (days : ℕ) (xs : List ℕ) (e : DayFault) → are_days 0 days xs ≡ true → IsFirstFault days xs e → ⊥
no_fault days xs (Range i) a f =
    let (d, at, past) = f.1 in let (b, c, g) = ascending_good 0 days i d xs a at in omega arith
no_fault days xs (Twice i) a f =
    let (d, at, again) = f.1 in let (b, c, g) = ascending_good 0 days i d xs a at in false≢true (sym g ∙ again)
