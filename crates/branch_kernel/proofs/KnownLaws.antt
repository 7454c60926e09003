-- What the choices of every yard keep.
use Rattle.std.proofs.Common.{ℕ, ◌≤◌, length, inl, inr, arith}
use Rattle.std.proofs.lemmas.Bool.{cases_lt}
use Rattle.std.proofs.lemmas.List.{get_or_past}
use Rattle.shape_exact.specs.Yards.{PlainYard, IsYard}
use Rattle.code_table.specs.Placements.{placements}
use Rattle.plan_rule.specs.Yards.{choices}
use Rattle.plan_rule.proofs.CountLaws.{blocks-length, count-length}
use Rattle.plan_rule.proofs.LimitLaws.{total-below, key-below}
use Rattle.plan_rule.proofs.YardLaws.{packed}
use Rattle.plan_rule.proofs.EnergyLaws.{energy-at_most}
use Rattle.plan_rule.proofs.ClashLaws.{clash-sym}
use Rattle.branch_kernel.specs.Known.{AreKnown}

pub known : (yard : PlainYard) → IsYard yard → ((b : ℕ) → length (placements yard b) ≤ 1048576) → AreKnown (choices yard)
known yard is few = record {
  small = record { total = λ p plan. total-below yard p is plan; key = λ p plan. key-below yard p is plan };
  energy = λ box first last q r feasible held energy. energy-at_most (choices yard) first last box r q (packed yard is) energy feasible held;
  mutual_clash = clash-sym yard;
  few = (let n = blocks-length yard in let m = is.few_blocks in omega arith);
  counts = λ b. elim (cases_lt b (length yard.blocks)) [
    | inl l ↦ let e = count-length yard b l in let m = few b in omega arith
    | inr past ↦ let n = blocks-length yard in let e = get_or_past (choices yard).counts b 0 (omega arith) in omega arith
  ];
}
