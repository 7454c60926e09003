use Rattle.std.proofs.Common.{ℕ, ◌+◌, ◌<◌, ◌≤◌, ◌⊎◌, ◌/◌, ◌^◌}
use Rattle.code_table.specs.Placements.{own_cost}
use Rattle.plan_rule.specs.Yards.{choices}
use Rattle.incumbent_word.proofs.tests.capsules.are_shut.Given as goal

-- the codes so far clash or cost too much
abbrev pub invariant-loop-d : goal.invariant-loop-d
invariant-loop-d l = (d : ℕ) → l.lo ≤ d → d < l.d
    → (choices l.codes).Clash 0 l.code 1 d
    ⊎ ((l.bar / 2 ^ 32 < own_cost l.codes 0 l.code + own_cost l.codes 1 d) × (own_cost l.codes 0 l.code + own_cost l.codes 1 d < 2 ^ 32))
