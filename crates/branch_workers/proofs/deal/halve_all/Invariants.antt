use Rattle.std.proofs.Common.{◌≡◌, ◌*◌, ◌+◌, ◌≤◌, ℕ, length, take, All}
use Rattle.plan_rule.specs.Yards.{choices}
use Rattle.log_merge.specs.Tiles.{times}
use Rattle.branch_workers.specs.Deal.{IsDealt}
use Rattle.branch_workers.proofs.deal.halve_all.Given as goal

abbrev pub invariant-loop-job : goal.invariant-loop-job
invariant-loop-job l =
    All (IsDealt (choices l.codes) (l.level + 1)) l.halved.items
    × ((x : ℕ) → times x l.halved.items ≡ times x (take l.job-index l.jobs))
    × (length l.halved.items ≤ 2 * l.job-index)
