use Rattle.std.proofs.Common.{◌≡◌, ◌-◌, length}
use Rattle.plan_rule.specs.Choices.{blocks}
use Rattle.plan_rule.specs.Yards.{choices}
use Rattle.plain_search.proofs.WalkLaws.{Walked}
use Rattle.plain_search.proofs.search.+search.Given as goal

-- the blocks that are not in the front
abbrev pub decreases-search : goal.decreases-search
decreases-search l = blocks (choices l.codes.now) - length l.front.now.items

-- the front is as it was, and the codes so far have been searched
abbrev pub invariant-loop-code : goal.invariant-loop-code
invariant-loop-code l = record {
  same : l.front.items ≡ l.initial.front.items;
  walked : Walked (choices l.codes) l.initial.front.items l.initial.hand l.hand l.code;
}
