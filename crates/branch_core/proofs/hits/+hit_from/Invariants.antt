use Rattle.std.proofs.Common.{◌-◌, length}
use Rattle.branch_core.proofs.hits.+hit_from.Given as goal

abbrev pub decreases-hit_from : goal.decreases-hit_from
decreases-hit_from l = length l.front.now - l.place
