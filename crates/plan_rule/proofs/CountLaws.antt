-- How many blocks and codes a yard leaves to choose from.
use Rattle.std.proofs.Common.{◌≡◌, ℕ, suc, ◌+◌, ◌<◌, List, length, refl, sym, ap, ◌∙◌, subst, arith}
use Rattle.std.proofs.lemmas.List.FromFn.{length-map-range_with_len, get_or-map-range_with_len}
use Rattle.shape_exact.specs.Yards.{PlainYard}
use Rattle.code_table.specs.Placements.{placements, own_cost}
use Rattle.plan_rule.specs.Choices.{Choices, blocks, count, IsCode}
use Rattle.plan_rule.specs.Plans.{code_of, IsPlan}
use Rattle.common_lists.specs.Each.{sum_below}
use Rattle.plan_rule.specs.Yards.{choices}

-- one choice for each block
pub blocks-length : (yard : PlainYard) → blocks (choices yard) ≡ length yard.blocks
unfolding choices
blocks-length yard = length-map-range_with_len (λ b. length (placements yard b)) 0 (length yard.blocks)

-- one code for each placement
pub count-length : (yard : PlainYard) (b : ℕ) → b < length yard.blocks → count (choices yard) b ≡ length (placements yard b)
unfolding choices
count-length yard b l = get_or-map-range_with_len (λ b. length (placements yard b)) 0 (length yard.blocks) b b 0 l (omega arith)

pub block_exists : (yard : PlainYard) (b : ℕ) → b < blocks (choices yard) → b < length yard.blocks
block_exists yard b l = let n = blocks-length yard in omega arith

pub code_exists : (yard : PlainYard) (b code : ℕ) → IsCode (choices yard) b code → code < length (placements yard b)
code_exists yard b code (l, m) = let n = count-length yard b (block_exists yard b l) in omega arith

pub is_code : (yard : PlainYard) (b code : ℕ) → b < blocks (choices yard) → code < length (placements yard b) → IsCode (choices yard) b code
is_code yard b code l m = let n = count-length yard b (block_exists yard b l) in (l, omega arith)

-- what a code costs
pub cost_is : (yard : PlainYard) (b code : ℕ) → (choices yard).cost b code ≡ own_cost yard b code
unfolding choices
cost_is yard b code = refl

-- a plan's code of a block is one of the block's placements
pub plan_code : (yard : PlainYard) (plan list : List ℕ) (b : ℕ) → IsPlan (choices yard) plan → list ≡ plan → b < blocks (choices yard)
    → code_of list b < length (placements yard b)
plan_code yard plan list b p e l =
    subst (λ list. code_of list b < length (placements yard b)) (sym e) (code_exists yard b (code_of plan b) (l, p.in_range b l))

-- what it costs
pub plan_cost : (yard : PlainYard) (plan list : List ℕ) (b cost : ℕ) → list ≡ plan → cost ≡ own_cost yard b (code_of list b)
    → cost ≡ (choices yard).cost b (code_of plan b)
unfolding choices
plan_cost yard plan list b cost e f = f ∙ ap (λ list. own_cost yard b (code_of list b)) e

-- one cost more
pub sum_more : (c : Choices) (plan : List ℕ) (n sum cost : ℕ) → sum ≡ sum_below n (λ b. c.cost b (code_of plan b)) → cost ≡ c.cost n (code_of plan n)
    → sum + cost ≡ sum_below (n + 1) (λ b. c.cost b (code_of plan b))
sum_more c plan n sum cost e f =
    let m : suc n ≡ n + 1 = omega arith in
    subst (λ k. sum + cost ≡ sum_below k (λ b. c.cost b (code_of plan b))) m (omega arith)

-- for a call's premises
pub ruleset counts = (blocks-length, count-length, block_exists, code_exists)
