use Rattle.std.proofs.Common.{sym, arith}
use Rattle.plate_calendar.proofs.CountLaws.{none_between}
use Rattle.plate_calendar.proofs.ReadLaws.{between_at}
use Rattle.plate_calendar.proofs.calendar.Calendar.open_between.Goals as goal

pub returns-then-last-first : goal.returns-then-last-first
returns-then-last-first c = sym (none_between c.args.first c.args.last c.args.self.now (omega arith))

pub overflow_sub-result : goal.overflow_sub-result
overflow_sub-result c =
    let a = between_at c.args.first c.args.last _ _ c.args.self.now (omega arith) c.count_below.ensures.value c.count_below-2.ensures.value in omega arith

pub returns : goal.returns
returns c =
    let a = between_at c.args.first c.args.last _ _ c.args.self.now (omega arith) c.count_below.ensures.value c.count_below-2.ensures.value in omega arith
