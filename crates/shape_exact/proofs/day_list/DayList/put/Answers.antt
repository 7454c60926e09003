use Rattle.std.proofs.Common.{◌≡◌, ◌≤◌, false, length, sym, ap, ◌∙◌, arith, lit<}
use Rattle.shape_exact.specs.Days.{has_day, place_of}
use Rattle.shape_exact.proofs.DayLaws.{has_day-there, has_day-with_day, few_days, with_day-are_days, room, insert_day-are_days, insert_day-at_place}
use Rattle.shape_exact.proofs.day_list.DayList.put.Goals as goal

pub insert-requires : goal.insert-requires
insert-requires c =
    let new : has_day c.args.day c.self.inside.days.items ≡ false = rw c.self.view_is (sym c.has.ensures ∙ c.if-has.false) in
    let within : c.place_of-at.result ≤ length c.self.inside.days.items = rw (← c.as_slice.ensures.value) c.place_of-at.ensures.within in
    (lit< tt, (within, room c.args.day c.self.inside.days.items c.requires new c.self.invariant))

pub invariant_of-self : goal.invariant_of-self
invariant_of-self c =
    let new : has_day c.args.day c.self.inside.days.items ≡ false = rw c.self.view_is (sym c.has.ensures ∙ c.if-has.false) in
    let at : c.place_of-at.result ≡ place_of c.args.day c.self.inside.days.items = c.place_of-at.ensures.value ∙ ap (place_of c.args.day) c.as_slice.ensures.value in
    rw (c.insert.ensures.items, at, insert_day-at_place c.args.day c.self.inside.days.items)
    (insert_day-are_days 0 400 c.args.day c.self.inside.days.items (omega arith) c.requires new c.self.invariant)

pub returns-clause-value : goal.returns-clause-value
returns-clause-value c =
    let new : has_day c.args.day c.self.inside.days.items ≡ false = rw c.self.view_is (sym c.has.ensures ∙ c.if-has.false) in
    let at : c.place_of-at.result ≡ place_of c.args.day c.self.inside.days.items = c.place_of-at.ensures.value ∙ ap (place_of c.args.day) c.as_slice.ensures.value in
    rw (c.insert.ensures.items, ← c.self.view_is, new, at) (insert_day-at_place c.args.day c.self.inside.days.items)

pub returns-then-has-clause-few : goal.returns-then-has-clause-few
returns-then-has-clause-few c =
    rw (← c.self.view_is) (omega (arith, few_days 0 400 c.self.inside.days.items (omega arith) c.self.invariant))

pub returns-clause-few : goal.returns-clause-few
returns-clause-few c =
    let new : has_day c.args.day c.self.inside.days.items ≡ false = rw c.self.view_is (sym c.has.ensures ∙ c.if-has.false) in
    omega (arith, c.insert.ensures.len, room c.args.day c.self.inside.days.items c.requires new c.self.invariant)

pub returns-clause-below : goal.returns-clause-below
returns-clause-below c = λ high small a. rw (returns-clause-value c) (with_day-are_days high c.args.day c.args.self.now small a)

pub returns-then-has-clause-holds : goal.returns-then-has-clause-holds
returns-then-has-clause-holds c = λ d. has_day-there d c.args.day c.args.self.now (sym c.has.ensures ∙ c.if-has.true)

pub returns-clause-holds : goal.returns-clause-holds
returns-clause-holds c = λ d. rw (returns-clause-value c) (has_day-with_day d c.args.day c.args.self.now)
