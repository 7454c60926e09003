-- The definitions at ten days of which one is closed.
use Rattle.std.proofs.Common.{◌≡◌, ℕ, List, [], ◌∷◌, Some, None, refl}
use Rattle.plate_calendar.specs.Calendars.{open_days, end_of, open_between}

abbrev opens : List ℕ
opens = open_days 10 (5 ∷ [])

ends_after_the_closed_day : end_of opens 4 2 ≡ Some 6
ends_after_the_closed_day = refl

ends_on_the_last_day : end_of opens 4 5 ≡ Some 9
ends_on_the_last_day = refl

too_few_days_left : end_of opens 4 6 ≡ None
too_few_days_left = refl

a_closed_start : end_of opens 5 1 ≡ None
a_closed_start = refl

two_open_days : open_between opens 4 6 ≡ 2
two_open_days = refl
