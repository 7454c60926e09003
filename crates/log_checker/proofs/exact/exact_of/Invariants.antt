use Rattle.std.proofs.Common.{◌≤◌, length, take}
use Rattle.std.specs.Prelude.{All}
use Rattle.log_checker.specs.ExactBlocks.{IsStanding}
use Rattle.log_checker.proofs.ExactLaws.{ExactTo}
use Rattle.log_checker.proofs.exact.exact_of.Given as goal

-- the blocks that the first literals fix
abbrev pub invariant-loop-l : goal.invariant-loop-l
invariant-loop-l l = record {
  few : length l.list.items ≤ l.l-index;
  exacts : ExactTo l.codes (take l.l-index l.l-items) l.list.items;
  standing : All (IsStanding l.codes) l.list.items;
}
