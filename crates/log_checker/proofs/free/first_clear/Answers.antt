use Rattle.std.proofs.Common.{arith}
use Rattle.log_checker.proofs.PassedLaws.{hindered_on}
use Rattle.log_checker.proofs.free.first_clear.Goals as goal

pub returns-then-found-stretch-clause-hindered : goal.returns-then-found-stretch-clause-hindered
returns-then-found-stretch-clause-hindered c =
    hindered_on c.args.codes.now c.args.exacts.now c.args.block c.loop-code.code c.to_clear-found.result.code c.to_clear-found.result.code
    c.loop-code.invariant.hindered c.to_clear-found.ensures.skipped (omega arith)

pub loop-code-preserved : goal.loop-code-preserved
loop-code-preserved c = record {
  hindered = hindered_on c.args.codes.now c.args.exacts.now c.args.block c.loop-code.code c.to_clear-found.result.code c.stretch-stretch.result.hi
      c.loop-code.invariant.hindered c.to_clear-found.ensures.skipped c.if-found-stretch.false;
  told = c.to_clear-found.ensures.told;
}
