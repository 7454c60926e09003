use Rattle.std.proofs.Common.{◌≡◌, ◌*◌, ◌^◌, ◌≤◌}
use Rattle.common_lists.specs.Each.{sum_below}
use Rattle.log_checker.specs.Windows.{plate_room}
use Rattle.log_checker.proofs.window.capacity.Given as goal

-- the sum so far, and how large it is at most
abbrev pub invariant-loop-plate : goal.invariant-loop-plate
invariant-loop-plate l = record {
  value : l.sum ≡ sum_below l.plate (plate_room l.codes l.window.from l.window.to);
  limit : l.sum ≤ 2 ^ 48 * l.plate;
}
