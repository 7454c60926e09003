use Rattle.std.proofs.Common.{◌≡◌, ◌+◌, ◌-◌, Some, sym, ◌∙◌, arith}
use Rattle.std.proofs.lemmas.Nat.{mul-le}
use Rattle.plan_rule.proofs.CountLaws.{block_exists, count-length}
use Rattle.plan_rule.proofs.RestLaws.{least_of_codes}
use Rattle.log_checker.proofs.WindowLaws.{raise_of}
use Rattle.log_checker.proofs.energy.raise.Goals as goal

pub block_at-data-requires : goal.block_at-data-requires
block_at-data-requires c = block_exists _ _ c.requires.block

pub least_cost-requires : goal.least_cost-requires
least_cost-requires c = block_exists _ _ c.requires.block

pub returns-in_err-least-clause-raise : goal.returns-in_err-least-clause-raise
returns-in_err-least-clause-raise c =
    let n = count-length c.args.codes.now c.args.block (block_exists c.args.codes.now c.args.block c.requires.block) in
    let some = c.requires.codes c.args.block c.requires.block in
    let none = c.in_err-least.ensures.none in
    absurd (omega arith)

pub returns-clause-raise : goal.returns-clause-raise
returns-clause-raise c =
    let late : c.saturating_sub-late.result ≡ c.args.window.to + 1 - c.block_at-data.result.now.due = omega arith in
    raise_of c.args.codes.now c.args.side.now c.args.window.from c.args.window.to c.args.block c.in_ok-least.least c.from-3.result
    c.saturating_sub-late.result c.saturating_sub.result c.block_at-data.result.now (sym c.presses.ensures ∙ c.if-not-presses.false)
    (least_of_codes c.args.codes.now c.args.block (Some c.in_ok-least.least) c.requires.block c.in_ok-least.ensures.none c.in_ok-least.ensures.least c.in_ok-least.ensures.attained)
    c.block_at-data.ensures.value c.from-3.ensures late c.saturating_sub.ensures

pub returns-clause-few : goal.returns-clause-few
returns-clause-few c =
    let weight = c.block_at-data.ensures.limits.weight in
    let most = mul-le c.from-3.result c.saturating_sub-late.result 1000 65536 (omega arith) (omega arith) in
    omega arith
