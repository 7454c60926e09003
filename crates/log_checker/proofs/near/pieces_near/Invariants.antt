use Rattle.std.proofs.Common.{◌≤◌, length}
use Rattle.log_checker.proofs.NearPieceLaws.{AreNearBelow}
use Rattle.log_checker.proofs.near.pieces_near.Given as goal

-- those of the first pieces that are near
abbrev pub invariant-loop-i : goal.invariant-loop-i
invariant-loop-i l = record {
  few : length l.list.items ≤ l.i;
  near : AreNearBelow l.codes l.place l.i l.list.items;
}
