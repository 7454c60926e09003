use Rattle.std.proofs.Common.{◌<◌, sym, subst, arith}
use Rattle.plan_rule.specs.Choices.{blocks}
use Rattle.plan_rule.specs.Yards.{choices}
use Rattle.log_checker.specs.Cuts.{IsRest}
use Rattle.log_checker.proofs.RestLaws.{sums_pass, sums_more, sums_all, never_beside}
use Rattle.log_checker.proofs.rest.rest_of.Goals as goal

pub loop-other-preserved-then-other-block : goal.loop-other-preserved-then-other-block
loop-other-preserved-then-other-block c = record {
  beside = sums_pass (choices c.args.codes.now) c.args.side.now c.args.block c.loop-other.other c.loop-other.sum c.if-other-block.true c.loop-other.invariant.beside;
  small = omega arith;
}

pub returns-in_err-sum : goal.returns-in_err-sum
returns-in_err-sum c =
    let exist : c.loop-other.other < blocks (choices c.args.codes.now) = omega arith in
    subst (IsRest (choices c.args.codes.now) c.args.side.now c.args.block) (sym c.from_residual.ensures)
    (never_beside (choices c.args.codes.now) c.args.side.now c.args.block c.loop-other.other exist c.if-other-block.false c.in_err-sum.ensures.least)

pub loop-other-preserved : goal.loop-other-preserved
loop-other-preserved c = record {
  beside = sums_more (choices c.args.codes.now) c.args.side.now c.args.block c.loop-other.other c.loop-other.sum _ c.if-other-block.false
      c.loop-other.invariant.beside c.in_ok-sum.ensures.least;
  small = let few = c.in_ok-sum.ensures.few in omega arith;
}

pub returns : goal.returns
returns c =
    sums_all (choices c.args.codes.now) c.args.side.now c.args.block c.loop-other.other c.loop-other.sum c.requires.block (omega arith) c.loop-other.invariant.beside
