use Rattle.std.proofs.Common.{◌≡◌, ◌*◌, ◌^◌, ◌≤◌}
use Rattle.common_lists.specs.Each.{sum_below}
use Rattle.tardiness_bounds.specs.Windows.{stood_at}
use Rattle.tardiness_bounds.proofs.window.standing.Given as goal

-- the sum so far, and how large it is at most
abbrev pub invariant-loop-piece : goal.invariant-loop-piece
invariant-loop-piece l = record {
  value : l.sum ≡ sum_below l.piece-index (stood_at l.codes l.window.from l.window.to);
  limit : l.sum ≤ 2 ^ 48 * l.piece-index;
}
