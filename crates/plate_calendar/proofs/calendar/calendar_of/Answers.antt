use Rattle.std.proofs.Common.{◌≡◌, ℕ, List, [], ◌∷◌, ◌++◌, length-set, Bool, ◌∙◌, ◌<◌, ◌&&◌, false, ap, subst, length, not, nat_lt, get_or, arith, lit<, set, below_more, get_or-set_same, get_or-set_other, ◌≢◌, ◌+◌}
use Rattle.std.proofs.lemmas.Bool.{lt-ltb, le-ltb, and_from, and_left, and_right, not_from_false, not_from_true}
use Rattle.plate_calendar.proofs.DayLaws.{picked}
use Rattle.plate_calendar.proofs.PickedLaws.{length-picked, picked-yes, picked-no, picked-cut, counted_days}
use Rattle.plate_calendar.proofs.calendar.calendar_of.Goals as goal
use Rattle.plate_calendar.proofs.calendar.calendar_of.Goals.{then-day-days+then-not-is_closed-day, else-day-days, else-day-days-via-then-day-days+else-not-is_closed-day, else-day-days-via-else-day-days}

pub push-requires : goal.push-requires
push-requires c =
    let few = length-picked (λ d. nat_lt d c.args.days && not (get_or c.args.is_closed.now d false)) c.loop-day.day in
    let long = ap length c.loop-day.invariant.1 in
    (lit< tt, (let l : length c.loop-day.opens.items < 400 = omega arith in l))

abbrev open_test : ℕ → List Bool → ℕ → Bool
open_test days is_closed d = nat_lt d days && not (get_or is_closed d false)

-- the counts, with that of the day
counts_more : (p : ℕ → Bool) (counts : List ℕ) (day n : ℕ) → day < length counts → n ≡ length (picked p day)
    → ((k : ℕ) → k < day → get_or counts k 0 ≡ length (picked p k))
    → (k : ℕ) → k < day + 1 → get_or (set counts day n) k 0 ≡ length (picked p k)
counts_more p counts day n in_counts is before =
    below_more _ _
    (λ k l. let other : k ≢ day = omega arith in get_or-set_other counts day k n 0 other ∙ before k l)
    (get_or-set_same counts day n 0 in_counts ∙ is)

pub loop-day-preserved : goal.loop-day-preserved
loop-day-preserved c =
    let p : ℕ → Bool = open_test c.args.days c.args.is_closed.now in
    let in_counts : c.loop-day.day < length c.loop-day.before = omega arith in
    let count : c.len.result ≡ length (picked p c.loop-day.day) = c.len.ensures.value ∙ ap length c.loop-day.invariant.1 in (
      length-set c.loop-day.before c.loop-day.day c.len.result ∙ c.loop-day.invariant.0,
      elim c.if-day-days.branch [
        | then-day-days+then-not-is_closed-day w ↦ rw w.opens-is (w.push.ensures.items ∙ ap (λ ds. ds ++ c.loop-day.day ∷ []) c.loop-day.invariant.1
            ∙ picked-yes p c.loop-day.day (and_from _ _ (lt-ltb c.loop-day.day c.args.days w.if-day-days.true) (not_from_false _ w.if-not-is_closed-day.true)))
        | else-day-days w ↦ rw w.opens-is (c.loop-day.invariant.1 ∙ picked-no p c.loop-day.day (elim w.else-day-days.branch [
          | else-day-days-via-then-day-days+else-not-is_closed-day v ↦ and_right (nat_lt c.loop-day.day c.args.days) _ (not_from_true _ v.if-not-is_closed-day.false)
          | else-day-days-via-else-day-days v ↦ and_left (nat_lt c.loop-day.day c.args.days) _ (le-ltb c.loop-day.day c.args.days v.if-day-days.false)
        ]))
      ],
      counts_more p c.loop-day.before c.loop-day.day c.len.result in_counts count c.loop-day.invariant.2,
    )

pub invariant_of-result : goal.invariant_of-result
invariant_of-result c =
    let done : c.loop-day.day ≡ 401 = omega arith in
    counted_days (λ d. not (get_or c.args.is_closed.now d false)) c.args.days c.loop-day.opens.items c.loop-day.before c.requires
    (subst (λ n. c.loop-day.opens.items ≡ picked (open_test c.args.days c.args.is_closed.now) n) done c.loop-day.invariant.1)
    (λ k l. c.loop-day.invariant.2 k (omega arith))

pub returns : goal.returns
returns c =
    let done : c.loop-day.day ≡ 401 = omega arith in
    c.loop-day.invariant.1 ∙ ap (picked (open_test c.args.days c.args.is_closed.now)) done
    ∙ picked-cut (λ d. not (get_or c.args.is_closed.now d false)) c.args.days 401 (omega arith)
