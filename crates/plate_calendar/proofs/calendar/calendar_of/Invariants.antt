use Rattle.std.proofs.Common.{◌≡◌, ℕ, ◌<◌, ◌&&◌, false, length, not, nat_lt, get_or}
use Rattle.plate_calendar.proofs.DayLaws.{picked}
use Rattle.plate_calendar.proofs.calendar.calendar_of.Given as goal

-- the open days below the day, and for each day before it the number of those below
abbrev pub invariant-loop-day : goal.invariant-loop-day
invariant-loop-day l =
    (length l.before ≡ 401)
    × (l.opens.items ≡ picked (λ d. nat_lt d l.days && not (get_or l.is_closed d false)) l.day)
    × ((k : ℕ) → k < l.day → get_or l.before k 0 ≡ length (picked (λ d. nat_lt d l.days && not (get_or l.is_closed d false)) k))
