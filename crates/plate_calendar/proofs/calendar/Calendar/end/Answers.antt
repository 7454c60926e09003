use Rattle.std.proofs.Common.{◌≡◌, true, ◌+◌, ◌-◌, ◌∙◌, ap, sym, arith, get_or}
use Rattle.std.specs.Prelude.{slice_get}
use Rattle.std.proofs.lemmas.Option.{gets}
use Rattle.std.proofs.lemmas.Grind.{common_steps}
use Rattle.shape_exact.specs.Days.{has_day}
use Rattle.plate_calendar.specs.Calendars.{end_of}
use Rattle.plate_calendar.proofs.ReadLaws.{end_at, day_below}
use Rattle.plate_calendar.proofs.calendar.Calendar.end.Goals as goal

pub bounds-self-inside-start : goal.bounds-self-inside-start
bounds-self-inside-start c =
    let open_day : has_day c.args.start c.self.inside.opens.items ≡ true =
    ap (has_day c.args.start) c.self.view_is ∙ sym c.is_open.ensures ∙ c.if-not-is_open.false in
    let l = day_below _ c.args.start c.self.invariant.ascending open_day in omega arith

pub returns : goal.returns
returns c =
    let open_day : has_day c.args.start c.self.inside.opens.items ≡ true =
    ap (has_day c.args.start) c.self.view_is ∙ sym c.is_open.ensures ∙ c.if-not-is_open.false in
    let found : c.copied.result ≡ slice_get c.self.inside.opens.items (get_or c.self.inside.before c.args.start 0 + (c.args.duration - 1)) =
    rw (← c.as_slice.ensures.value) (grind (arith, common_steps, gets)) in
    found ∙ end_at _ _ c.args.start c.args.duration c.self.invariant open_day ∙ ap (λ ds. end_of ds c.args.start c.args.duration) c.self.view_is
