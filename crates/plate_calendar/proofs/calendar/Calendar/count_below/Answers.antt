use Rattle.std.proofs.Common.{◌≡◌, ◌∙◌, ap, get_or, arith}
use Rattle.plate_calendar.specs.Counts.{count_below}
use Rattle.plate_calendar.proofs.ReadLaws.{counted_any, counts_few}
use Rattle.plate_calendar.proofs.calendar.Calendar.count_below.Goals as goal

pub returns-clause-value : goal.returns-clause-value
returns-clause-value c =
    ap (λ n. get_or c.self.inside.before n 0) c.min.ensures ∙ counted_any _ _ c.args.day c.self.invariant
    ∙ ap (count_below c.args.day) c.self.view_is

pub returns-clause-few : goal.returns-clause-few
returns-clause-few c =
    let e : get_or c.self.inside.before c.min.result 0 ≡ count_below c.args.day c.self.inside.opens.items =
    ap (λ n. get_or c.self.inside.before n 0) c.min.ensures ∙ counted_any _ _ c.args.day c.self.invariant in
    let few = counts_few _ _ c.args.day c.self.invariant in omega arith
