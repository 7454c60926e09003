use Rattle.std.proofs.Common.{◌∙◌, ap}
use Rattle.shape_exact.specs.Days.{are_days}
use Rattle.plate_calendar.proofs.FaultLaws.{no_fault}
use Rattle.plate_calendar.proofs.calendar.Calendar.of_list.Goals as goal

pub unreachable-requires : goal.unreachable-requires
unreachable-requires c =
    no_fault c.args.days c.days.result.now c.in-Err.field-0 (ap (are_days 0 c.args.days) c.days.ensures.value ∙ c.requires.below) c.in-Err.ensures.fault
