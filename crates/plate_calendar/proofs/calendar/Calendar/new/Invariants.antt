use Rattle.std.proofs.Common.{◌≡◌, ℕ, ◌<◌, false, take, get_or, length}
use Rattle.shape_exact.specs.Days.{has_day}
use Rattle.plate_calendar.specs.Faults.{IsGoodEntry}
use Rattle.plate_calendar.proofs.calendar.Calendar.new.Given as goal

-- the entries so far are good, and the days among them are marked
abbrev pub invariant-loop-i : goal.invariant-loop-i
invariant-loop-i l =
    (length l.is_closed ≡ 400) × ((k : ℕ) → k < l.i → IsGoodEntry l.days l.closed k)
    × ((d : ℕ) → d < 400 → get_or l.is_closed d false ≡ has_day d (take l.i l.closed))
