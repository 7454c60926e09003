-- No code with a later start costs less than its start allows.
use Rattle.std.proofs.Common.{◌≡◌, ℕ, zero, suc, ◌+◌, ◌-◌, ◌*◌, ◌<◌, ◌≤◌, List, Bool, true, false, Some, refl, sym, ap, ◌∙◌, inl, inr, arith}
use Rattle.std.specs.Prelude.{slice_get, nat_le, not, ◌&&◌}
use Rattle.std.proofs.lemmas.Bool.{cases_lt, lt-leb, true≢false}
use Rattle.std.proofs.lemmas.Nat.{mul-le}
use Rattle.std.proofs.lemmas.Option.{same_Some}
use Rattle.common_lists.specs.Each.{sum_below}
use Rattle.shape_exact.specs.Days.{has_day}
use Rattle.shape_exact.specs.Yards.{PlainYard, IsYard}
use Rattle.shape_exact.specs.declared.block.Block.{Block}
use Rattle.plate_calendar.specs.Calendars.{open_days, end_of}
use Rattle.plate_calendar.proofs.DayLaws.{one_if, count-sum, end_law, and_last_false}
use Rattle.code_table.specs.declared.placement.Placement.{Placement}
use Rattle.code_table.specs.Orders.{AreAscending}
use Rattle.code_table.specs.Placements.{placements, cost_of, cost_on}
use Rattle.code_table.proofs.EndLaws.{first_start}
use Rattle.code_table.proofs.ReadLaws.{block_limits}
use Rattle.plan_rule.specs.Choices.{IsCode}
use Rattle.plan_rule.specs.Yards.{choices}
use Rattle.plan_rule.proofs.CountLaws.{cost_is}
use Rattle.plan_rule.proofs.YardLaws.{coded}
use Rattle.plan_rule.proofs.PackLaws.{one_if-le}

none_first : (a b c : Bool) → b ≡ false → one_if (a && (b && c)) ≡ 0
none_first true true c e = absurd (true≢false e)
none_first true false c e = refl
none_first false b c e = refl

-- of the days below n at most so many lie from one day to another as there are days
few_between : (open' : ℕ → Bool) (first last n : ℕ)
    → (sum_below n (λ d. one_if (open' d && (nat_le first d && nat_le d last))) ≤ n - first)
    × (sum_below n (λ d. one_if (open' d && (nat_le first d && nat_le d last))) ≤ last + 1 - first)
few_between open' first last zero = (omega arith, omega arith)
few_between open' first last (suc n) =
    let h = few_between open' first last n in
    let one = one_if-le (open' n && (nat_le first n && nat_le n last)) in
    elim (cases_lt n first) [
      | inl early ↦
          let none = none_first (open' n) (nat_le first n) (nat_le n last) (lt-leb first n early) in
          let a = h.0 in let b = h.1 in (omega arith, omega arith)
      | inr within ↦ elim (cases_lt last n) [
        | inl late ↦
            let none = and_last_false (open' n) (nat_le first n) (nat_le n last) (lt-leb n last late) in
            let a = h.0 in let b = h.1 in (omega arith, omega arith)
        | inr within' ↦ let a = h.0 in let b = h.1 in (omega arith, omega arith)
      ]
    ]

-- work ends no sooner than without closed days
pub end_late : (days start duration end : ℕ) (closed : List ℕ) → 0 < duration → end_of (open_days days closed) start duration ≡ Some end
    → start + duration ≤ end + 1
end_late days start duration end closed some is =
    let (after, below, spanned) = end_law days start duration end closed some is in
    let count = count-sum (λ d. nat_le start d && nat_le d end) (λ d. not (has_day d closed)) days in
    let few = (few_between (λ d. not (has_day d closed)) start end days).1 in
    omega arith

-- a later code starts no sooner
starts_ascend : (ps : List Placement) (i j : ℕ) (p q : Placement) → AreAscending ps → i ≤ j → slice_get ps i ≡ Some p → slice_get ps j ≡ Some q
    → p.start ≤ q.start
starts_ascend ps i j p q up le e f = elim (cases_lt i j) [
  | inl less ↦ first_start p q (up i j p q less e f)
  | inr here ↦
      let same : i ≡ j = omega arith in
      let one : p ≡ q = same_Some p q (sym e ∙ ap (slice_get ps) same ∙ f) in
      let start : p.start ≡ q.start = ap (λ (p : Placement). p.start) one in
      omega arith
]

-- what a code with this start, or a later one, costs at least
pub onward_cost : (yard : PlainYard) (b code k start least : ℕ) → IsYard yard → AreAscending (placements yard b)
    → ((block : Block) → slice_get yard.blocks b ≡ Some block → least ≡ block.weight * (start + block.duration - 1 - block.due))
    → IsCode (choices yard) b code → ((p : Placement) → slice_get (placements yard b) code ≡ Some p → p.start ≡ start)
    → code ≤ k → IsCode (choices yard) b k → least ≤ (choices yard).cost b k
onward_cost yard b code k start least is up value (exist, below) starts le (exist', below') =
    let one = coded yard b code exist below in
    let two = coded yard b k exist below' in
    let begins : one.p.start ≡ start = starts one.p one.p_is in
    let order = starts_ascend (placements yard b) code k one.p two.p up le one.p_is two.p_is in
    let some = (block_limits yard b two.block is two.block_is).duration in
    let late = end_late yard.days two.p.start two.block.duration two.p.end two.is.plate.closed (omega arith) two.is.end_is in
    let cost : (choices yard).cost b k ≡ cost_on two.block two.p.end =
    cost_is yard b k ∙ ap (λ o. cost_of o (slice_get (placements yard b) k)) two.block_is ∙ ap (cost_of (Some two.block)) two.p_is in
    let most = mul-le two.block.weight (start + two.block.duration - 1 - two.block.due) two.block.weight (two.p.end - two.block.due) (omega arith) (omega arith) in
    let same = value two.block two.block_is in
    omega arith
