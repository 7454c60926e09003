use Rattle.std.proofs.Common.{◌≡◌, map, take}
use Rattle.plate_calendar.specs.Calendars.{open_days}
use Rattle.code_table.proofs.stand.calendars_of.Given as goal

-- the calendars of the plates so far
abbrev pub invariant-loop-plate : goal.invariant-loop-plate
invariant-loop-plate l =
    l.calendars.items ≡ map (λ p. open_days l.yard.days p.closed) (take l.plate-index l.plates)
