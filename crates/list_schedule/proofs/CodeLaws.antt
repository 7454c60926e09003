-- Codes that exist, and lists of codes that are plans.
use Rattle.std.proofs.Common.{◌≡◌, ℕ, ◌<◌, length, sym, subst, arith}
use Rattle.shape_exact.specs.Yards.{PlainYard}
use Rattle.code_table.specs.Placements.{placements}
use Rattle.plan_rule.specs.Choices.{IsCode, blocks}
use Rattle.plan_rule.specs.Yards.{choices}
use Rattle.plan_rule.proofs.CountLaws.{blocks-length, count-length}

-- a code of a block is below the length of the list of the block's placements
pub code_exists : (yard other : PlainYard) (b code : ℕ) → other ≡ yard → IsCode (choices yard) b code → (b < length other.blocks) × (code < length (placements other b))
code_exists yard other b code same (exists, below) =
    let n = blocks-length yard in
    let here : b < length yard.blocks = omega arith in
    let m = count-length yard b here in
    subst (λ y. (b < length y.blocks) × (code < length (placements y b))) (sym same) (here, omega arith)
