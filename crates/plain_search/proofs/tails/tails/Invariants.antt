use Rattle.std.proofs.Common.{◌≡◌, get_or}
use Rattle.plan_rule.specs.Yards.{choices}
use Rattle.plain_search.proofs.TailLaws.{AreFirst}
use Rattle.plain_search.proofs.tails.tails.Given as goal

-- the numbers so far, of which the sum is the last
abbrev pub invariant-loop-k : goal.invariant-loop-k
invariant-loop-k l = record {
  first : AreFirst (choices l.codes) l.list.items l.k;
  last : l.sum ≡ get_or l.list.items l.k 0;
}
