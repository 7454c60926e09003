-- What the counts of a calendar answer.
use Rattle.std.proofs.Common.{◌≡◌, ℕ, ◌+◌, ◌-◌, ◌≤◌, ◌<◌, List, true, false, sym, ap, ◌∙◌, arith, inl, inr, nat_lt, nat_le, min, get_or, cond}
use Rattle.std.specs.Prelude.{slice_get, filter, None}
use Rattle.std.proofs.lemmas.Bool.{cases_lt, false≢true}
use Rattle.std.proofs.lemmas.List.Sums.{count_by-le-length}
use Rattle.common_lists.proofs.ListLaws.{get_drop}
use Rattle.shape_exact.specs.Days.{has_day, are_days}
use Rattle.shape_exact.proofs.DayLaws.{few_days}
use Rattle.plate_calendar.specs.Calendars.{end_of, open_between}
use Rattle.plate_calendar.specs.Counts.{count_below, IsCounted}
use Rattle.plate_calendar.proofs.CountLaws.{filter_from, count_below-past, has_day-step, has_day-past, count_between}

-- the count at a number, or at 400 where that is less
pub counted_any : (opens counts : List ℕ) (d : ℕ) → IsCounted opens counts → get_or counts (min d 400) 0 ≡ count_below d opens
counted_any opens counts d c = elim (cases_lt d 400) [
  | inl below ↦ ap (λ n. get_or counts n 0) (let e : min d 400 ≡ d = omega arith in e) ∙ c.counted d (omega arith)
  | inr past ↦
      ap (λ n. get_or counts n 0) (let e : min d 400 ≡ 400 = omega arith in e) ∙ c.counted 400 (omega arith)
      ∙ count_below-past 0 400 400 opens (omega arith) c.ascending ∙ sym (count_below-past 0 400 d opens past c.ascending)
]

-- no count is above 400
pub counts_few : (opens counts : List ℕ) (d : ℕ) → IsCounted opens counts → count_below d opens ≤ 400
counts_few opens counts d c =
    let a = few_days 0 400 opens (omega arith) c.ascending in let b = count_by-le-length (λ e. nat_lt e d) opens in omega arith

-- a day is open where the counts step
pub open_at : (opens counts : List ℕ) (d : ℕ) → d < 400 → IsCounted opens counts
    → nat_lt (get_or counts d 0) (get_or counts (d + 1) 0) ≡ has_day d opens
open_at opens counts d l c =
    ap (λ n. nat_lt n (get_or counts (d + 1) 0)) (c.counted d (omega arith))
    ∙ ap (nat_lt (count_below d opens)) (c.counted (d + 1) (omega arith)) ∙ has_day-step d opens

-- a day of a list that ends below 400 is below it
pub day_below : (opens : List ℕ) (d : ℕ) → are_days 0 400 opens ≡ true → has_day d opens ≡ true → d < 400
day_below opens d a h = elim (cases_lt d 400) [
  | inl below ↦ below
  | inr past ↦ absurd (false≢true (sym (has_day-past 0 400 d opens past a) ∙ h))
]

-- the end stands in the list so many places after the days below the start
pub end_at : (opens counts : List ℕ) (start duration : ℕ) → IsCounted opens counts → has_day start opens ≡ true
    → slice_get opens (get_or counts start 0 + (duration - 1)) ≡ end_of opens start duration
end_at opens counts start duration c h =
    let low = day_below opens start c.ascending h in
    ap (λ n. slice_get opens (n + (duration - 1))) (c.counted start (omega arith))
    ∙ sym (get_drop (count_below start opens) (duration - 1) opens)
    ∙ ap (λ ds. slice_get ds (duration - 1)) (sym (filter_from start 0 400 opens c.ascending))
    ∙ ap (λ b. cond b (slice_get (filter (λ d. nat_le start d) opens) (duration - 1)) None) (sym h)

-- the open days of a window are the difference of two counts
pub between_at : (first last below_first below_next : ℕ) (opens : List ℕ) → first ≤ last → below_next ≡ count_below (last + 1) opens
    → below_first ≡ count_below first opens → below_next ≡ below_first + open_between opens first last
between_at first last m n opens l e f = let a = count_between first last opens (omega arith) in omega arith
