use Rattle.std.proofs.Common.{◌≡◌, ℕ, ◌+◌, ◌*◌, List}
use Rattle.std.specs.List.{AllWithin}
use Rattle.plan_rule.specs.declared.literal.Literal.{Literal}
use Rattle.plan_rule.specs.Choices.{Choices}
use Rattle.plan_rule.specs.Yards.{choices}
use Rattle.branch_kernel.specs.States.{state}
use Rattle.branch_kernel.specs.Boxes.{inexact, node_box}
use Rattle.branch_kernel.specs.Marks.{has}
use Rattle.branch_kernel.specs.Growth.{Runs}
use Rattle.branch_kernel.specs.Shows.{AreCited}
use Rattle.branch_search.specs.Views.{IsView}
use Rattle.branch_search.proofs.CycleLaws.{IsSegmentHandled}
use Rattle.branch_search.proofs.RoomLaws.{room}
use Rattle.branch_search.proofs.cycle.+refute.Given as goal

-- how much a side and a range of a block leave
abbrev size : Choices → List Literal → ℕ → ℕ → ℕ → ℕ
size c side b lo hi = inexact c side + room c (node_box c side b lo hi)

abbrev pub decreases-settle : goal.decreases-settle
decreases-settle g l = 6 * size (choices l.codes.now) l.side.now l.block l.code (l.code + 1)

abbrev pub decreases-settle_segment : goal.decreases-settle_segment
decreases-settle_segment g l = 6 * size (choices l.codes.now) l.side.now l.range.block l.range.lo l.range.hi + 1

abbrev pub decreases-divide : goal.decreases-divide
decreases-divide g l = 6 * size (choices l.codes.now) l.side.now l.range.block l.range.lo l.range.hi + 2

abbrev pub decreases-refute : goal.decreases-refute
decreases-refute g l = 6 * (inexact (choices l.codes.now) l.part.now + room (choices l.codes.now) l.part.now) + 3

abbrev pub decreases-along : goal.decreases-along
decreases-along g l = 6 * size (choices l.codes.now) l.side.now l.range.block l.range.lo l.range.hi + 4

abbrev pub decreases-deeper : goal.decreases-deeper
decreases-deeper g l = 6 * (inexact (choices l.codes.now) l.part.now + room (choices l.codes.now) l.part.now) + 5

-- what the segments so far have come to
abbrev pub invariant-divide-loop-at : goal.invariant-divide-loop-at
invariant-divide-loop-at g l = record {
  served : g.B.Bars.yard l.bars ≡ l.codes;
  home : g.B.Bars.home l.bars ≡ g.B.Bars.home l.initial.bars;
  runs : Runs (choices l.codes) l.job (state (g.B.Bars.bar l.initial.bars) l.initial.best l.initial.log l.initial.store)
      (state (g.B.Bars.bar l.bars) l.best l.log l.store);
  prefix : l.store.prefix ≡ l.initial.store.prefix;
  view : IsView l.codes l.side (has l.needs) l.range.block l.view;
  handled : AllWithin (IsSegmentHandled (choices l.codes) (state (g.B.Bars.bar l.initial.bars) l.initial.best l.initial.log l.initial.store)
      (state (g.B.Bars.bar l.bars) l.best l.log l.store) l.tie l.side (has l.needs) l.cites.items l.range.block) l.order.list.items 0 l.at;
  cited : AreCited (choices l.codes) (state (g.B.Bars.bar l.initial.bars) l.initial.best l.initial.log l.initial.store)
      (state (g.B.Bars.bar l.bars) l.best l.log l.store) l.tie l.cites.items;
}
