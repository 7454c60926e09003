-- Adding up the placements of one block after the other.
use Rattle.std.proofs.Common.{◌≡◌, ℕ, suc, ◌+◌, ◌<◌, length, subst, arith}
use Rattle.shape_exact.specs.Yards.{PlainYard}
use Rattle.common_lists.specs.Each.{sum_below}
use Rattle.code_table.specs.Placements.{placements}
use Rattle.plan_rule.specs.Choices.{blocks, count}
use Rattle.plan_rule.specs.Yards.{choices}
use Rattle.plan_rule.proofs.CountLaws.{block_exists, count-length}

-- one block more
pub count_more : (yard : PlainYard) (n sum more : ℕ) → n < blocks (choices yard) → sum ≡ sum_below n (count (choices yard))
    → more ≡ length (placements yard n) → sum + more ≡ sum_below (n + 1) (count (choices yard))
count_more yard n sum more l so_far is =
    let m : suc n ≡ n + 1 = omega arith in
    let c = count-length yard n (block_exists yard n l) in
    subst (λ k. sum + more ≡ sum_below k (count (choices yard))) m (omega arith)
