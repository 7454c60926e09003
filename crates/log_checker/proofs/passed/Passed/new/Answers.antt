use Rattle.log_checker.proofs.PassedLaws.{none_yet}
use Rattle.log_checker.proofs.passed.Passed.new.Goals as goal

pub returns : goal.returns
returns c = λ yard. none_yet yard _
