use Rattle.std.proofs.Common.{◌≡◌, ◌+◌, ◌<◌, ◌^◌, sym, subst, arith}
use Rattle.std.specs.Prelude.{IfSome}
use Rattle.plan_rule.specs.Choices.{blocks}
use Rattle.plan_rule.specs.Yards.{choices}
use Rattle.plan_rule.proofs.WindowLaws.{lesser_few}
use Rattle.log_checker.specs.Windows.{IsLeastRaiseBelow}
use Rattle.log_checker.proofs.WindowLaws.{raise_more}
use Rattle.log_checker.proofs.energy.least_raise.Goals as goal

pub loop-block-preserved : goal.loop-block-preserved
loop-block-preserved c = record {
  value = subst (IsLeastRaiseBelow (choices c.args.codes.now) c.args.side.now c.args.window.from c.args.window.to (c.loop-block.block + 1))
      (sym c.lesser-least.ensures)
      (raise_more (choices c.args.codes.now) c.args.side.now c.args.window.from c.args.window.to c.loop-block.block c.loop-block.least c.raise.result
      c.loop-block.invariant.value c.raise.ensures.raise);
  few = subst (λ o. IfSome o (λ v. v < 2 ^ 31)) (sym c.lesser-least.ensures)
      (lesser_few (2 ^ 31) c.loop-block.least c.raise.result c.loop-block.invariant.few c.raise.ensures.few);
}

pub returns-clause-raise : goal.returns-clause-raise
returns-clause-raise c =
    let all : c.loop-block.block ≡ blocks (choices c.args.codes.now) = omega arith in
    subst (λ n. IsLeastRaiseBelow (choices c.args.codes.now) c.args.side.now c.args.window.from c.args.window.to n c.loop-block.least) all
    c.loop-block.invariant.value
