-- The total of a plan of a yard is small.
use Rattle.std.proofs.Common.{◌≡◌, ℕ, ◌-◌, ◌*◌, ◌^◌, ◌<◌, ◌≤◌, List, length, Some, refl, ap, ◌∙◌, arith, inl, inr}
use Rattle.std.specs.Prelude.{slice_get}
use Rattle.std.proofs.lemmas.Bool.{cases_lt}
use Rattle.std.proofs.lemmas.Nat.{mul-le}
use Rattle.common_lists.specs.Each.{sum_below}
use Rattle.shape_exact.specs.Yards.{PlainYard, IsYard}
use Rattle.common_lists.proofs.EachLaws.{sum-le, sum_below-const}
use Rattle.plate_calendar.proofs.DayLaws.{end_law}
use Rattle.code_table.specs.Placements.{placements, own_cost, cost_of, cost_on}
use Rattle.code_table.proofs.ReadLaws.{block_limits}
use Rattle.plan_rule.specs.Choices.{blocks, count}
use Rattle.plan_rule.specs.Plans.{code_of, IsPlan, total}
use Rattle.plan_rule.specs.Paths.{key}
use Rattle.plan_rule.specs.Yards.{choices}
use Rattle.plan_rule.proofs.CountLaws.{blocks-length}
use Rattle.plan_rule.proofs.PathLaws.{path-below}
use Rattle.plan_rule.proofs.YardLaws.{coded}

-- an own cost is at most the greatest weight, or the greatest early cost, times the days before the last
pub cost-le : (yard : PlainYard) (b code : ℕ) → IsYard yard → b < blocks (choices yard) → code < count (choices yard) b → own_cost yard b code ≤ 399000
cost-le yard b code is l m =
    let c = coded yard b code l m in
    let block = block_limits yard b c.block is c.block_is in
    let (before, below, open') = end_law yard.days c.p.start c.block.duration c.p.end c.is.plate.closed (let d = block.duration in omega arith) c.is.end_is in
    let days = is.days in
    let weight = block.weight in
    let cost : own_cost yard b code ≡ cost_on c.block c.p.end =
    ap (λ o. cost_of o (slice_get (placements yard b) code)) c.block_is ∙ ap (cost_of (Some c.block)) c.p_is in
    let due = block.due in
    let low = block.early in
    elim (cases_lt c.p.end c.block.due) [
      | inl soon ↦
          let none = ap (λ n. c.block.weight * n) (let e : c.p.end - c.block.due ≡ 0 = omega arith in e) in
          let most = mul-le c.block.early (c.block.due - c.p.end) 1000 399 (omega arith) (omega arith) in
          omega (arith, none, most, cost)
      | inr late ↦
          let none = ap (λ n. c.block.early * n) (let e : c.block.due - c.p.end ≡ 0 = omega arith in e) in
          let most = mul-le c.block.weight (c.p.end - c.block.due) 1000 399 (omega arith) (omega arith) in
          omega (arith, none, most, cost)
    ]

own-costs : (yard : PlainYard) → (choices yard).cost ≡ own_cost yard
unfolding choices
own-costs yard = refl

-- the total of a plan is below 2 ^ 31
pub total-below : (yard : PlainYard) (plan : List ℕ) → IsYard yard → IsPlan (choices yard) plan → total (choices yard) plan < 2 ^ 31
total-below yard plan is p =
    let n : ℕ = blocks (choices yard) in
    let few : length yard.blocks ≤ 32 = is.few_blocks in
    let long = blocks-length yard in
    let cost : (b : ℕ) → b < n → (choices yard).cost b (code_of plan b) ≤ 399000 = λ b l.
    let same = ap (λ f. f b (code_of plan b)) (own-costs yard) in
    let le = cost-le yard b (code_of plan b) is l (p.in_range b l) in
    omega arith in
    let most : total (choices yard) plan ≤ sum_below n (λ b. 399000) = sum-le n (λ b. (choices yard).cost b (code_of plan b)) (λ b. 399000) cost in
    let all : sum_below n (λ b. 399000) ≡ n * 399000 = sum_below-const n 399000 (λ b. 399000) (λ b l. refl) in
    omega arith

-- the key of a plan is below the greatest u64
pub key-below : (yard : PlainYard) (plan : List ℕ) → IsYard yard → IsPlan (choices yard) plan → key (choices yard) plan < 2 ^ 63
key-below yard plan is p =
    let a = total-below yard plan is p in
    let b = path-below (choices yard) plan in
    omega arith
