use Rattle.std.proofs.Common.{◌∙◌, ap, sym}
use Rattle.std.proofs.lemmas.Bool.{le-ltb}
use Rattle.shape_exact.specs.Days.{has_day}
use Rattle.plate_calendar.proofs.ReadLaws.{open_at}
use Rattle.plate_calendar.proofs.CountLaws.{has_day-past}
use Rattle.plate_calendar.proofs.calendar.Calendar.is_open.Goals as goal

pub returns-then-day-lt-MOST_DAYS : goal.returns-then-day-lt-MOST_DAYS
returns-then-day-lt-MOST_DAYS c =
    open_at _ _ c.args.day c.if-day-lt-MOST_DAYS.true c.self.invariant ∙ ap (has_day c.args.day) c.self.view_is

pub returns-else-day-lt-MOST_DAYS : goal.returns-else-day-lt-MOST_DAYS
returns-else-day-lt-MOST_DAYS c =
    le-ltb c.args.day 400 c.if-day-lt-MOST_DAYS.false
    ∙ sym (has_day-past 0 400 c.args.day _ c.if-day-lt-MOST_DAYS.false c.self.invariant.ascending) ∙ ap (has_day c.args.day) c.self.view_is
