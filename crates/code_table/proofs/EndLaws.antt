-- On one plate a later start has no earlier end.
use Rattle.std.proofs.Common.{◌≡◌, ℕ, zero, suc, ◌+◌, ◌-◌, ◌≤◌, List, [], ◌∷◌, Option, Some, None, sym, ap, ◌∙◌, arith, Bool, true, false, inl, inr, nat_lt, nat_le, cond}
use Rattle.std.specs.Prelude.{slice_get, filter, not, if◌then◌else◌}
use Rattle.std.proofs.lemmas.Bool.Decides.{nat_tests}
use Rattle.std.proofs.lemmas.Option.{same_Some, none-some}
use Rattle.common_lists.proofs.ListLaws.{get_drop}
use Rattle.shape_exact.specs.Yards.{PlainYard, IsYard}
use Rattle.shape_exact.specs.Days.{has_day, are_days}
use Rattle.shape_exact.specs.declared.block.Block.{Block}
use Rattle.shape_exact.specs.declared.plate.Plate.{Plate}
use Rattle.plate_calendar.specs.Calendars.{open_days, end_of}
use Rattle.plate_calendar.specs.Counts.{count_below}
use Rattle.plate_calendar.proofs.CountLaws.{count_below-cons, filter_from, first_day, picked-are_days, are_days-higher}
use Rattle.plate_calendar.proofs.FaultLaws.{ascending_good}
use Rattle.code_table.specs.declared.placement.Placement.{Placement}
use Rattle.code_table.specs.Orders.{ComesBefore, EndsAscend}
use Rattle.code_table.specs.Placements.{placements_of}
use Rattle.code_table.proofs.PlacedLaws.{placed-facts}
use Rattle.code_table.proofs.OrderLaws.{placements_ascend}

-- a later day of an ascending list is no less
later_day : (low high i j a b : ℕ) (xs : List ℕ) → are_days low high xs ≡ true → i ≤ j → slice_get xs i ≡ Some a → slice_get xs j ≡ Some b → a ≤ b
later_day low high i j a b [] asc l e f = absurd (none-some a e)
later_day low high zero zero a b (x ∷ xs) asc l e f = let s = same_Some a b (sym e ∙ f) in omega arith
later_day low high zero (suc j) a b (x ∷ xs) asc l e f =
    let (c, d, t) = first_day low high x xs asc in let s = same_Some x a e in
    let (g, h, m) = ascending_good (suc x) high j b xs t f in omega arith
later_day low high (suc i) zero a b (x ∷ xs) asc l e f = absurd (omega arith)
later_day low high (suc i) (suc j) a b (x ∷ xs) asc l e f =
    let (c, d, t) = first_day low high x xs asc in later_day (suc x) high i j a b xs t (omega arith) e f

one_below : (s t x : ℕ) → s ≤ t → cond (nat_lt x s) 1 0 ≤ cond (nat_lt x t) 1 0
one_below s t x l = grind (arith, nat_tests)

fewer_below : (s t : ℕ) (xs : List ℕ) → s ≤ t → count_below s xs ≤ count_below t xs
fewer_below s t [] l = omega arith
fewer_below s t (x ∷ xs) l =
    let a = count_below-cons s x xs in let b = count_below-cons t x xs in let c = one_below s t x l in let d = fewer_below s t xs l in omega arith

end_in_list : (opens : List ℕ) (start duration end : ℕ) → are_days 0 400 opens ≡ true → end_of opens start duration ≡ Some end
    → slice_get opens (count_below start opens + (duration - 1)) ≡ Some end
end_in_list opens start duration end asc e =
    sym (get_drop (count_below start opens) (duration - 1) opens)
    ∙ ap (λ ds. slice_get ds (duration - 1)) (sym (filter_from start 0 400 opens asc))
    ∙ picked_some (has_day start opens) (slice_get (filter (λ d. nat_le start d) opens) (duration - 1)) end e
  where
    picked_some : (b : Bool) (o : Option ℕ) (e : ℕ) → (if b then o else None) ≡ Some e → o ≡ Some e
    picked_some true o e h = h
    picked_some false o e h = absurd (none-some e h)

-- a later start has no earlier end
pub later_end : (opens : List ℕ) (s t duration a b : ℕ) → are_days 0 400 opens ≡ true → s ≤ t → end_of opens s duration ≡ Some a
    → end_of opens t duration ≡ Some b → a ≤ b
later_end opens s t duration a b asc l e f =
    let m = fewer_below s t opens l in
    later_day 0 400 (count_below s opens + (duration - 1)) (count_below t opens + (duration - 1)) a b opens asc (omega arith)
    (end_in_list opens s duration a asc e) (end_in_list opens t duration b asc f)

pub first_start : (p q : Placement) → ComesBefore p q → p.start ≤ q.start
first_start p q order = elim order [ inl less ↦ omega arith | inr same ↦ let e = same.0 in omega arith ]

-- along the codes of a block the ends on one plate never fall
pub ends_ascend : (yard : PlainYard) (block : Block) → IsYard yard → EndsAscend (placements_of yard block)
ends_ascend yard block y i j p q less e f same_number =
    let pf = placed-facts yard block i p e in
    let qf = placed-facts yard block j q f in
    let same : pf.plate ≡ qf.plate =
    same_Some pf.plate qf.plate (sym pf.plate_is ∙ ap (slice_get yard.plates) same_number ∙ qf.plate_is) in
    let order = first_start p q (placements_ascend yard block y i j p q less e f) in
    let days = y.days in
    let opens : List ℕ = open_days yard.days pf.plate.closed in
    let asc = are_days-higher 0 yard.days 400 opens (omega arith) (picked-are_days (λ d. not (has_day d pf.plate.closed)) yard.days) in
    later_end opens p.start q.start block.duration p.end q.end asc order pf.end_is
    (ap (λ (pl : Plate). end_of (open_days yard.days pl.closed) q.start block.duration) same ∙ qf.end_is)
