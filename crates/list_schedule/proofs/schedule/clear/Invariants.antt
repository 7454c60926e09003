use Rattle.std.proofs.Common.{length}
use Rattle.list_schedule.proofs.schedule.clear.Given as goal

abbrev pub decreases-loop-frontier : goal.decreases-loop-frontier
decreases-loop-frontier l = length l.frontier.literals
