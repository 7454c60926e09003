use Rattle.std.proofs.Common.{subst}
use Rattle.std.specs.Prelude.{All, Contains}
use Rattle.log_checker.proofs.PassedLaws.{none_yet}
use Rattle.log_checker.proofs.passed.Passed.turn_to.Goals as goal

pub returns-then-are_in-clause-among : goal.returns-then-are_in-clause-among
returns-then-are_in-clause-among c =
    subst (All (Contains c.args.exacts.now)) c.as_slice-then-len.ensures.value (c.are_in.ensures c.if-are_in.true)

pub returns-clause-kept : goal.returns-clause-kept
returns-clause-kept c = λ yard kept. none_yet yard _
