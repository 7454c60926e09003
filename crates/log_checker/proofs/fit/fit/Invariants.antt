use Rattle.std.specs.Prelude.{All, Contains}
use Rattle.std.proofs.Common.{◌+◌, ◌^◌, ◌<◌}
use Rattle.plan_rule.specs.Bounds.{IsSumOfLeast, MayFit}
use Rattle.plan_rule.specs.Yards.{choices}
use Rattle.log_checker.specs.Masks.{AreTold}
use Rattle.log_checker.specs.PassedCodes.{ArePassed}
use Rattle.log_checker.proofs.FitLaws.{IsRest}
use Rattle.log_checker.proofs.fit.fit.Given as goal

-- the sum so far, what the other blocks cost at least, and that both fit into a number
abbrev pub invariant-loop-block : goal.invariant-loop-block
invariant-loop-block l = record {
  value : IsSumOfLeast (MayFit (choices l.codes) l.side) (choices l.codes).cost l.block l.sum;
  rest : IsRest (choices l.codes) l.side l.block l.rest;
  told : AreTold l.codes l.masks;
  kept : ArePassed l.codes l.passed;
  among : All (Contains l.exacts) l.passed.exacts.items;
  limit : l.sum + l.rest < 2 ^ 32;
}
