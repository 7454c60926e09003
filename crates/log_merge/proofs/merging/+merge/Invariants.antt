use Rattle.std.proofs.Common.{◌-◌}
use Rattle.log_merge.proofs.merging.+merge.Given as goal

-- the bits that are left to the job
abbrev pub decreases-merge : goal.decreases-merge
decreases-merge l = 32 - l.job.length
