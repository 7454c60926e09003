use Rattle.std.proofs.Common.{◌≡◌, ◌^◌, ◌≤◌, ℕ, length, All}
use Rattle.plan_rule.specs.Yards.{choices}
use Rattle.log_merge.specs.Tiles.{has, times, root}
use Rattle.branch_workers.specs.Deal.{IsDealt}
use Rattle.branch_workers.proofs.deal.cut.Given as goal

abbrev pub invariant-loop-level : goal.invariant-loop-level
invariant-loop-level l =
    All (IsDealt (choices l.codes) l.level) l.jobs.items
    × ((x : ℕ) → times x l.jobs.items ≡ has x root)
    × (length l.jobs.items ≤ 2 ^ l.level)
